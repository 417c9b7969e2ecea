use Rattle.std.proofs.Common.{length, ap, arith}
use Rattle.col_terms.specs.TermTable.{terms_by}
use Rattle.col_terms.proofs.ArenaLemmas.{holds-count}
use Rattle.col_terms.proofs.term_arena.TermArena.len.Goals as goal

pub returns : goal.returns
returns c =
    let a = c.self.inside in
    let count = holds-count a.bytes.items a.ends.items (terms_by a.ends.items a.bytes.items) c.self.invariant in
    omega (arith, c.len.ensures, count, ap length c.self.view_is)
