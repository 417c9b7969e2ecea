use Rattle.std.proofs.Common.{◌∙◌, subst}
use Rattle.std.specs.List.{AllByRecursion}
use Rattle.col_segments.specs.Compaction.{HasItsRows}
use Rattle.col_segments.proofs.ConflictLemmas.{compacts-or-conflicts}
use Rattle.col_segments.proofs.segments.Segments.compacts_or_conflicts.Goals as goal

pub returns : goal.returns
returns c =
    compacts-or-conflicts c.args.self.now
    (subst (AllByRecursion HasItsRows) (c.deref.ensures.value ∙ c.self.view_is) c.rows_are_there.ensures)
