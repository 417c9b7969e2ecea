use Rattle.std.proofs.Common.{◌≡◌, drop}
use Rattle.col_numbers.specs.Readers.{list_of}
use Rattle.col_index.specs.Sets.{is_row_list}
use Rattle.col_index.proofs.SetLemmas.{rest_rises}
use Rattle.col_index.proofs.rising.are_rising_rows.Given as goal

-- what is left decides
abbrev pub invariant-loop-at : goal.invariant-loop-at
invariant-loop-at l =
    record { rest : is_row_list l.num_rows (list_of l.rows) ≡ rest_rises l.num_rows l.next (drop l.at (list_of l.rows)) }
