use Rattle.std.proofs.Common.{length, get_or, ap, ◌∙◌, arith}
use Rattle.std.proofs.lemmas.List.{get_or_read}
use Rattle.col_model.specs.Index.{RowSet}
use Rattle.col_index.proofs.RunHeldLemmas.{summed_long, summed_all}
use Rattle.col_index.proofs.row_runs.RowRuns.num_non_nulls.Goals as goal

pub index-requires : goal.index-requires
index-requires c =
    omega (arith, c.num_non_nulls.ensures, summed_long c.self.inside.starts c.self.inside.before.items c.self.invariant.summed)

pub returns : goal.returns
returns c =
    let starts = c.self.inside.starts in
    let before = c.self.inside.before.items in
    let long = summed_long starts before c.self.invariant.summed in
    get_or_read before c.num_non_nulls.result c.index.result.now (omega (arith, c.num_non_nulls.ensures, long)) c.index.ensures 0
    ∙ ap (λ k. get_or before k 0) c.num_non_nulls.ensures ∙ summed_all starts before c.self.invariant.summed
    ∙ ap (λ (s : RowSet). length s.rows) c.self.view_is
