use Rattle.std.proofs.Common.{◌≡◌, drop}
use Rattle.col_numbers.specs.Readers.{list_of}
use Rattle.col_index.specs.Offsets.{is_start_list}
use Rattle.col_index.proofs.StartLemmas.{rest_rises}
use Rattle.col_index.proofs.start_offsets.are_starts.Given as goal

abbrev pub invariant-loop-at : goal.invariant-loop-at
invariant-loop-at l = is_start_list l.num_rows (list_of l.starts) ≡ rest_rises l.last (drop l.at (list_of l.starts))
