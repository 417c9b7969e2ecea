-- Neighbours without a column may be one file.
use Rattle.std.proofs.Common.{◌∷◌, ◌++◌, []}
use Rattle.std.specs.Prelude.{sum}
use Rattle.col_model.specs.Merge.{row_counts}
use Rattle.col_alike.proofs.AlikeLemmas.{alike-joined, alike-self, alike-append}
use Rattle.col_alike.proofs.GapLemmas.{gap_of, alike-gap}
use Rattle.col_laws.specs.StackLaws.{NeighboursWithoutTheColumnAreOne}

-- neighbours without the column may be one of as many rows, between others
pub neighbours-are-one : NeighboursWithoutTheColumnAreOne
neighbours-are-one slot before gap behind required all =
    alike-joined slot (before ++ (gap ++ behind)) (before ++ gap_of (sum (row_counts gap)) ∷ behind)
    (alike-append slot before before (gap ++ behind) (gap_of (sum (row_counts gap)) ∷ behind) (alike-self slot before)
    (alike-append slot gap (gap_of (sum (row_counts gap)) ∷ []) behind behind (alike-gap slot gap all) (alike-self slot behind)))
    required
