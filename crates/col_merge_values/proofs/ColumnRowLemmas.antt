-- The rows of a column, one behind another.
use Rattle.std.proofs.Common.{◌≡◌, ℕ, List, [], length, map, sym}
use Rattle.std.specs.List.{range_with_len}
use Rattle.std.proofs.lemmas.List.FromFn.{fill_by_all}
use Rattle.std.proofs.lemmas.Option.{unwrap_or-slice_get}
use Rattle.col_model.specs.Index.{Shape}
use Rattle.col_model.specs.U64List.{joined_lists}
use Rattle.col_model.proofs.DecodedCounts.{cut-is}
use Rattle.col_column.specs.Columns.{IsCounted, counts_by, rows_by, row_at}
use Rattle.col_column.proofs.SerializeRowLemmas.{sum-counts_by}

-- all rows of a column are its values
pub joined-rows : {T : Type 0} (s : Shape) (xs : List T) → IsCounted s (length xs) → joined_lists (rows_by s xs) ≡ xs
unfolding rows_by
joined-rows s xs h = (cut-is (counts_by s (length xs)) xs (sum-counts_by s (length xs) h)).joined

-- rows that are read one by one
pub row_by_row : {T : Type 0} (rows : List (List T)) (n : ℕ) → length rows ≡ n → map (row_at rows) (range_with_len 0 n) ≡ rows
row_by_row rows n e = sym (fill_by_all (row_at rows) rows n [] e (λ k h. sym (unwrap_or-slice_get rows k [])))
