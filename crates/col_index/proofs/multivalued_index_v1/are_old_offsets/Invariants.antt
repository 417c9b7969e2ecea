use Rattle.std.proofs.Common.{◌≡◌, ◌&&◌, drop}
use Rattle.col_common.specs.Ascending.{is_never_falling}
use Rattle.col_model.specs.Index.{are_offsets}
use Rattle.col_numbers.specs.Readers.{list_of}
use Rattle.col_index.proofs.OldTestLemmas.{rest_stays}
use Rattle.col_index.proofs.multivalued_index_v1.are_old_offsets.Given as goal

abbrev pub invariant-loop-at : goal.invariant-loop-at
invariant-loop-at l =
    (are_offsets (list_of l.starts) && is_never_falling (list_of l.starts)) ≡ rest_stays l.last (drop l.at (list_of l.starts))
