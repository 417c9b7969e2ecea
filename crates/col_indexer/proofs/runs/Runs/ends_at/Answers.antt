use Rattle.std.proofs.Common.{arith}
use Rattle.col_indexer.proofs.RunListLemmas.{ends-none, ends-shown}
use Rattle.col_indexer.proofs.runs.Runs.ends_at.Goals as goal

pub returns-then-count-eq0 : goal.returns-then-count-eq0
returns-then-count-eq0 c =
    ends-none c.self.inside.starts.items c.self.inside.lengths.items _ c.args.row c.self.view_is
    (omega (arith, c.len-count.ensures, c.if-count-eq0.true, c.self.inside.starts.ok.0))

pub overflow_add-result : goal.overflow_add-result
overflow_add-result c =
    let fits = (ends-shown c.self.inside.starts.items c.self.inside.lengths.items _ c.self.invariant c.self.view_is
    c.index.result.now c.index-2.result.now _ c.args.row
    (omega (arith, c.len-count.ensures, c.if-count-eq0.false, c.self.inside.starts.ok.0)) c.index.ensures c.index-2.ensures).1 in
    omega arith

pub returns : goal.returns
returns c =
    (ends-shown c.self.inside.starts.items c.self.inside.lengths.items _ c.self.invariant c.self.view_is
    c.index.result.now c.index-2.result.now _ c.args.row
    (omega (arith, c.len-count.ensures, c.if-count-eq0.false, c.self.inside.starts.ok.0)) c.index.ensures c.index-2.ensures).0
