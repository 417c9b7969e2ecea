-- The keys of rows in parts with sound columns are of the slot's category.
use Rattle.std.proofs.Common.{◌≡◌, ℕ, zero, suc, true, List, [], ◌∷◌, slice_get, Some, None, refl, ap, subst, unwrap_or, option_map, option_and_then}
use Rattle.std.specs.Prelude.{Option}
use Rattle.std.specs.List.{list_all, AllByRecursion}
use Rattle.std.proofs.lemmas.Bool.{and_parts}
use Rattle.std.proofs.lemmas.Option.{same_Some}
use Rattle.col_model.specs.Category.{Category, category_of, Slot}
use Rattle.col_model.specs.ColumnType.{ColumnType}
use Rattle.col_model.specs.File.{Part}
use Rattle.col_model.specs.Limits.{is_of_type}
use Rattle.col_model.specs.Lookup.{row_of}
use Rattle.col_model.specs.Merge.{whole_column_in}
use Rattle.col_model.specs.SortedOrder.{key_in}
use Rattle.col_model.specs.Soundness.{HasSoundColumns}
use Rattle.col_model.specs.Table.{Cell, Column}
use Rattle.col_model.proofs.MergedSound.{whole-sound}
use Rattle.col_laws.proofs.KeyOrderLemmas.{IsKeyOf}

-- what all items keep, one that stands there keeps
all-at : {A : Type 0} (P : A → Type 0) (xs : List A) (i : ℕ) (x : A) → AllByRecursion P xs → slice_get xs i ≡ Some x → P x
all-at P [] i x all e = cc
all-at P (y ∷ xs) zero x all e = subst P (same_Some y x e) all.0
all-at P (y ∷ xs) (suc i) x all e = all-at P xs i x all.1 e

-- a row whose cells are of a type, or one that isn't there
typed-row : (t : ColumnType) (rows : List (List Cell)) (i : ℕ) → list_all (list_all (is_of_type t)) rows ≡ true
    → list_all (is_of_type t) (unwrap_or (slice_get rows i) []) ≡ true
typed-row t [] i e = refl
typed-row t (row ∷ rows) zero e = (and_parts (list_all (is_of_type t) row) _ e).0
typed-row t (row ∷ rows) (suc i) e = typed-row t rows i (and_parts (list_all (is_of_type t) row) _ e).1

-- the first of cells of a type of a category
first-typed : (c : Category) (t : ColumnType) (cells : List Cell) → category_of t ≡ c → list_all (is_of_type t) cells ≡ true
    → IsKeyOf c (slice_get cells 0)
first-typed c t [] w e = tt
first-typed c t (cell ∷ cells) w e =
    record { t = t; within = w; own = (and_parts (is_of_type t cell) (list_all (is_of_type t) cells) e).0 }

-- The key of a row is none, or a cell of a type of the slot's category.
pub key-typed : (slot : Slot) (parts : List Part) → AllByRecursion HasSoundColumns parts → (row : ℕ × ℕ)
    → IsKeyOf slot.category (key_in slot parts row)
key-typed slot parts sound row = by (slice_get parts row.0) refl
  where
    column : (p : Part) → HasSoundColumns p → (o : Option Column) → whole_column_in slot p ≡ o
        → IsKeyOf slot.category (slice_get (unwrap_or (option_map (λ c. row_of c.content row.1) o) []) 0)
    column p h None e = tt
    column p h (Some d) e =
        let found = whole-sound slot p d h e in
        first-typed slot.category d.column_type (row_of d.content row.1) (ap (λ s. s.category) found.1)
        (typed-row d.column_type d.content.rows row.1 found.0.cells)

    by : (o : Option Part) → slice_get parts row.0 ≡ o
        → IsKeyOf slot.category
        (slice_get (unwrap_or (option_map (λ c. row_of c.content row.1) (option_and_then (whole_column_in slot) o)) []) 0)
    by None e = tt
    by (Some p) e = column p (all-at HasSoundColumns parts row.0 p sound e) (whole_column_in slot p) refl
