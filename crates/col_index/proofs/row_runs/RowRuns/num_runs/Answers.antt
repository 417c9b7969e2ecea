use Rattle.std.proofs.Common.{length, sym, ap, ◌∙◌}
use Rattle.col_model.specs.Index.{RowSet, runs_of}
use Rattle.col_index.proofs.RunHeldLemmas.{summed_runs}
use Rattle.col_index.proofs.row_runs.RowRuns.num_runs.Goals as goal

pub returns : goal.returns
returns c =
    c.num_non_nulls.ensures ∙ sym (summed_runs c.self.inside.starts c.self.inside.before.items c.self.invariant.summed)
    ∙ ap (λ (s : RowSet). length (runs_of s.rows)) c.self.view_is
