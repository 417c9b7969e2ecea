-- Lists of stored numbers, and the cells of their values.
use Rattle.std.proofs.Common.{◌≡◌, ℕ, Bool, true, List, [], ◌∷◌, map, Option, refl, ap, ◌∙◌}
use Rattle.std.proofs.lemmas.Bool.{and_parts}
use Rattle.std.specs.List.{list_all}
use Rattle.std.specs.declared.cmp.Ordering.{Ordering}
use Rattle.col_model.specs.ColumnType.{ColumnType}
use Rattle.col_model.specs.Column.{number_cell, is_stored}
use Rattle.col_model.specs.Table.{Cell}
use Rattle.col_values.specs.Codes.{IsCoded}
use Rattle.col_values.specs.Monotonic.{Passes}
use Rattle.col_types.specs.Stored.{IsStoredAs}

module _ {T : Type 0} {read : List ℕ → Option (List ℕ)} {kind : ColumnType} {cell : T → Cell}
    {value : ℕ → T} {is_code : ℕ → Bool} (laws : IsStoredAs read kind cell value is_code) where
  -- a list is stored exactly where each number stands for a value
  pub stored_are_codes : (xs : List ℕ) → list_all (is_stored kind) xs ≡ list_all is_code xs
  stored_are_codes xs = λ i. list_all (λ n. laws.stored n i) xs

  -- the cells of numbers are those of their values
  pub cells_of_numbers : (xs : List ℕ) → list_all is_code xs ≡ true →
      map (number_cell kind) xs ≡ map (λ n. cell (value n)) xs
  cells_of_numbers [] h = refl
  cells_of_numbers (n ∷ xs) h =
      let p = and_parts (is_code n) (list_all is_code xs) h in
      λ i. laws.cells n p.0 i ∷ cells_of_numbers xs p.1 i

  -- the cell of a value's number is that of the value
  pub cell_of_code : {limit : ℕ} {cmp : T → T → Option Ordering} {in_type : T → Bool}
      {code : T → ℕ} → IsCoded limit cmp in_type code value is_code →
      (v : T) → Passes in_type v → number_cell kind (code v) ≡ cell v
  cell_of_code {code = code} coded v h =
      laws.cells (code v) (coded.image v h) ∙ ap cell (coded.undoes v h)
