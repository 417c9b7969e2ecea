use Rattle.std.proofs.Common.{ap, sym, arith}
use Rattle.std.specs.List.{range_with_len}
use Rattle.std.proofs.lemmas.Result.{on_ok_weaker}
use Rattle.col_indexer.proofs.RunStackLemmas.{more-none, more-run, more-same}
use Rattle.col_indexer.proofs.stacked_runs.push_span.Goals as goal

pub returns-then-count-eq0 : goal.returns-then-count-eq0
returns-then-count-eq0 c =
    more-same _ _ _ (range_with_len c.args.start c.args.count)
    (ap (range_with_len c.args.start) (sym c.if-count-eq0.true)) (more-none c.args.runs.now)

pub returns : goal.returns
returns c =
    on_ok_weaker c.push_run.result (more-run c.args.runs.now _ c.args.start c.args.count (omega (arith, c.if-count-eq0.false)))
    c.push_run.ensures
