-- Each cell of an open column is of the column's own type.
use Rattle.std.proofs.Common.{◌≡◌, ◌∙◌, ℕ, Bool, true, false, List, [], ◌∷◌, length, map, refl}
use Rattle.std.specs.List.{list_all}
use Rattle.col_model.proofs.SoundTables.{rows-all}
use Rattle.col_model.specs.Column.{term_cell}
use Rattle.col_model.specs.ColumnType.{ColumnType}
use Rattle.col_model.specs.ColumnType as types
use Rattle.col_model.specs.Index.{Shape}
use Rattle.col_model.specs.Limits.{is_of_type}
use Rattle.col_model.specs.Table.{Cell}
use Rattle.col_model.specs.U64List.{joined_lists}
use Rattle.col_types.specs.Cells.{bool_cell}
use Rattle.col_column.specs.Columns.{IsCounted, rows_by}
use Rattle.col_dynamic.proofs.CoercionLemmas.{all-rows}

-- the cells of a column each of whose values has one of the type
pub own-cells : {T : Type 0} (t : ColumnType) (cell : T → Cell) (s : Shape) (xs : List T) → IsCounted s (length xs)
    → list_all (λ x. is_of_type t (cell x)) xs ≡ true
    → list_all (is_of_type t) (joined_lists (map (map cell) (rows_by s xs))) ≡ true
own-cells t cell s xs counted all =
    rows-all (is_of_type t) (map (map cell) (rows_by s xs)) ∙ all-rows (is_of_type t) cell s xs counted ∙ all

flags-all : (xs : List Bool) → list_all (λ b. is_of_type types.bool (bool_cell b)) xs ≡ true
flags-all [] = refl
flags-all (true ∷ xs) = flags-all xs
flags-all (false ∷ xs) = flags-all xs

-- each cell of a column of flags is one
pub flags-own : (s : Shape) (xs : List Bool) → IsCounted s (length xs)
    → list_all (is_of_type types.bool) (joined_lists (map (map bool_cell) (rows_by s xs))) ≡ true
flags-own s xs counted = own-cells types.bool bool_cell s xs counted (flags-all xs)

texts-all : (terms : List (List ℕ)) (xs : List ℕ)
    → (list_all (λ n. is_of_type types.bytes (term_cell terms n)) xs ≡ true)
    × (list_all (λ n. is_of_type types.str (term_cell terms n)) xs ≡ true)
texts-all terms [] = (refl, refl)
texts-all terms (x ∷ xs) = texts-all terms xs

-- each cell of a column of terms is a text
pub bytes-own : (terms : List (List ℕ)) (s : Shape) (xs : List ℕ) → IsCounted s (length xs)
    → list_all (is_of_type types.bytes) (joined_lists (map (map (term_cell terms)) (rows_by s xs))) ≡ true
bytes-own terms s xs counted = own-cells types.bytes (term_cell terms) s xs counted (texts-all terms xs).0

-- the cells of a column of texts are texts
pub texts-own : (terms : List (List ℕ)) (s : Shape) (xs : List ℕ) → IsCounted s (length xs)
    → list_all (is_of_type types.str) (joined_lists (map (map (term_cell terms)) (rows_by s xs))) ≡ true
texts-own terms s xs counted = own-cells types.str (term_cell terms) s xs counted (texts-all terms xs).1
