-- Sorted merges by computed rows: ties, numbers of two types, and what happens without the premise that columns are sound.
use Rattle.std.specs.Prelude.{◌≡◌, ℕ, ℤ, true, false, List, [], ◌∷◌, pos, negsuc, Ok, refl}
use Rattle.col_model.proofs.OnLiterals.{col_model_on_literals}
use Rattle.col_model.specs.Category.{Slot}
use Rattle.col_model.specs.Category as categories
use Rattle.col_model.specs.ColumnType.{ColumnType}
use Rattle.col_model.specs.ColumnType as types
use Rattle.col_model.specs.File.{Part, part_of_table}
use Rattle.col_model.specs.Merge.{merged}
use Rattle.col_model.specs.Order.{Order, shuffle}
use Rattle.col_model.specs.SortOrder.{are_keys_in_order}
use Rattle.col_model.specs.SortedOrder.{sorted_rows, sorted_order}
use Rattle.col_model.specs.Table.{Cell, number, text, Cardinality, full, optional, Table}
use Rattle.col_laws.specs.SortLaws.{key_under}

-- a table of two rows with one i64 column, "a"
abbrev two_rows : Cardinality → List (List ℕ) → List Cell → List Cell → Table
two_rows c found first second = record {
  row_count = 2;
  columns =
      record {
        name = 97 ∷ [];
        column_type = types.i64;
        content = record { cardinality = c; terms = found; rows = first ∷ second ∷ [] };
      } ∷ [];
}

-- the numerical column "a"
abbrev slot : Slot
slot = record { name = 97 ∷ []; category = categories.numerical }

-- ---- ties

-- rows 7 and none, and rows 7 and 5
abbrev parts : List Part
parts =
    part_of_table (two_rows optional [] (number (pos 7) ∷ []) [])
    ∷ part_of_table (two_rows full [] (number (pos 7) ∷ []) (number (pos 5) ∷ [])) ∷ []

-- none is least, and both 7 stand by segment, ..
rising : sorted_order parts slot false ≡ Ok (shuffle (2 ∷ 2 ∷ []) ((0, 1) ∷ (1, 1) ∷ (0, 0) ∷ (1, 0) ∷ []))
unfolding col_model_on_literals sorted_order sorted_rows
rising = refl

-- .. in the reversed order too
falling : sorted_order parts slot true ≡ Ok (shuffle (2 ∷ 2 ∷ []) ((0, 0) ∷ (1, 0) ∷ (1, 1) ∷ (0, 1) ∷ []))
unfolding col_model_on_literals sorted_order sorted_rows
falling = refl

-- ---- numbers of two types

-- a table of two rows, whose column "a" has one number each
abbrev numbers : ColumnType → ℤ → ℤ → Table
numbers t first second = record {
  row_count = 2;
  columns =
      record {
        name = 97 ∷ [];
        column_type = t;
        content = record {
          cardinality = full;
          terms = [];
          rows = (number first ∷ []) ∷ (number second ∷ []) ∷ [];
        };
      } ∷ [];
}

-- 5 and -1 of i64, and 2 ^ 64 - 1 and 3 of u64
abbrev mixed : List Part
mixed =
    part_of_table (numbers types.i64 (pos 5) (negsuc 0))
    ∷ part_of_table (numbers types.u64 (pos 18446744073709551615) (pos 3)) ∷ []

mixed_rising : sorted_order mixed slot false ≡ Ok (shuffle (2 ∷ 2 ∷ []) ((0, 1) ∷ (1, 1) ∷ (0, 0) ∷ (1, 0) ∷ []))
unfolding col_model_on_literals sorted_order sorted_rows
mixed_rising = refl

mixed_falling : sorted_order mixed slot true ≡ Ok (shuffle (2 ∷ 2 ∷ []) ((1, 0) ∷ (0, 0) ∷ (1, 1) ∷ (0, 1) ∷ []))
unfolding col_model_on_literals sorted_order sorted_rows
mixed_falling = refl

-- ---- without the premise that columns are sound: an i64 column has a text

-- a text, and a number behind it
abbrev unsound : List Part
unsound = part_of_table (two_rows full [] (text [] ∷ []) (number (pos 0) ∷ [])) ∷ []

abbrev turned : Order
turned = shuffle (2 ∷ []) ((0, 1) ∷ (0, 0) ∷ [])

abbrev turned_table : Table
turned_table = two_rows full ([] ∷ []) (number (pos 0) ∷ []) (text [] ∷ [])

-- they don't compare, so that the order turns them, ..
unsound_order : sorted_order unsound slot false ≡ Ok turned
unfolding col_model_on_literals sorted_order sorted_rows
unsound_order = refl

-- .. the merge is made, ..
unsound_merge : merged unsound [] turned ≡ Ok turned_table
unfolding col_model_on_literals
unsound_merge = refl

-- .. and its keys aren't in order
unsound_keys : are_keys_in_order false (key_under slot turned_table 0) (key_under slot turned_table 1) ≡ false
unfolding col_model_on_literals
unsound_keys = refl
