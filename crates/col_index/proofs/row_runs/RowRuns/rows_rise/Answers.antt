use Rattle.std.proofs.Common.{subst}
use Rattle.col_index.specs.Sets.{AreRows}
use Rattle.col_index.proofs.RunHeldLemmas.{summed_rows}
use Rattle.col_index.proofs.row_runs.RowRuns.rows_rise.Goals as goal

pub returns : goal.returns
returns c = subst AreRows c.self.view_is (summed_rows c.self.inside.starts c.self.inside.before.items c.self.invariant.summed)
