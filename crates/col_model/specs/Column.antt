-- What the bytes of a column stand for. States docs/FORMAT.md, section 9.
use Rattle.std.specs.Prelude.{ℕ, ℤ, pos, ◌-ℤ◌, ◌^◌, ◌==◌, ◌&&◌, Bool, true, List, [], map, length, sum, slice_get, unwrap_or, Option, Some, if◌then◌else◌}
use Rattle.std.specs.Int.{w32, w64}
use Rattle.std.specs.List.{list_all}
use Rattle.col_common.specs.Reading.{◌>>=◌, only_if, parts_by_first}
use Rattle.col_model.specs.U64List.{values64}
use Rattle.col_common.specs.Ascending.{are_below}
use Rattle.col_model.specs.Images.{is_image_of_bool}
use Rattle.col_model.specs.AddressList.{values128}
use Rattle.col_model.specs.Dictionary.{cut, terms}
use Rattle.col_model.specs.Index.{Counts, counts}
use Rattle.col_model.specs.Table.{Cell, number, text, Content}
use Rattle.col_model.specs.ColumnType.{ColumnType, has_terms}
use Rattle.col_model.specs.ColumnType as types

-- a number as a signed one: minus 2 ^ 63
abbrev pub signed_of : ℕ → ℤ
signed_of n = pos n -ℤ pos (2 ^ 63)

-- the cell that a stored number stands for, where the type has no terms
abbrev pub number_cell : ColumnType → ℕ → Cell
number_cell types.i64 n = number (signed_of n)
number_cell types.datetime n = number (signed_of n)
number_cell types.u64 n = number (pos n)
number_cell types.bool n = number (pos n)
number_cell types.ip n = number (pos n)
number_cell types.str n = number (pos n)
number_cell types.bytes n = number (pos n)

-- the term of an ordinal
abbrev pub term_cell : List (List ℕ) → ℕ → Cell
term_cell found n = text (unwrap_or (slice_get found n) [])

-- a number that a column of this type may store
abbrev pub is_stored : ColumnType → ℕ → Bool
is_stored types.bool n = is_image_of_bool n
is_stored types.i64 n = true
is_stored types.datetime n = true
is_stored types.u64 n = true
is_stored types.ip n = true
is_stored types.str n = true
is_stored types.bytes n = true

-- the numbers that the bytes stand for, in the list of the type
abbrev pub stored_numbers : ColumnType → List ℕ → Option (List ℕ)
stored_numbers types.ip bytes = values128 bytes
stored_numbers types.i64 bytes = values64 bytes
stored_numbers types.u64 bytes = values64 bytes
stored_numbers types.bool bytes = values64 bytes
stored_numbers types.datetime bytes = values64 bytes
stored_numbers types.str bytes = values64 bytes
stored_numbers types.bytes bytes = values64 bytes

-- Index, numbers, the index's length: the counts of the rows, and the numbers cut by them.
unfoldable pub number_rows : List ℕ → ColumnType → ℕ → ℕ → Option (Counts × List (List ℕ))
number_rows bytes t version n = do
  parts ← parts_by_first w64 bytes
  c ← counts parts.0 version n
  numbers ← stored_numbers t parts.1
  only_if ((sum c.of_rows == length numbers) && list_all (is_stored t) numbers)
      (c, cut c.of_rows numbers)

-- the rows with their cells
abbrev pub cut_content : List (List ℕ) → (ℕ → Cell) → Counts × List (List ℕ) → Content
cut_content found cell p =
    record { cardinality = p.0.cardinality; terms = found; rows = map (map cell) p.1 }

-- Dictionary, a column of ordinals below the term count, the dictionary's length.
unfoldable pub term_column : List ℕ → ColumnType → ℕ → ℕ → Option Content
term_column bytes t version n = do
  parts ← parts_by_first w32 bytes
  found ← terms parts.0
  p ← number_rows parts.1 t version n
  only_if (list_all (are_below (length found)) p.1)
      (cut_content found (term_cell found) p)

-- What the bytes of a column of this type stand for, in a file of this version and row count.
unfoldable pub column : List ℕ → ColumnType → ℕ → ℕ → Option Content
column bytes t version n =
    let by_terms = term_column bytes t version n in
    let by_numbers =
    number_rows bytes t version n >>= λ p. Some (cut_content [] (number_cell t) p) in
    if has_terms t then by_terms else by_numbers
