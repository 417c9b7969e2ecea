-- Which terms of columns a merged column has.
use Rattle.std.specs.Prelude.{◌≡◌, ◌⊎◌, ℕ, ◌≤◌, ◌<◌, true, List, map, length, slice_get, Some, is_some}
use Rattle.std.specs.List.{AllByRecursion}
use Rattle.col_common.specs.declared.error.ColumnarError.{ColumnarError}
use Rattle.col_common.specs.declared.error.ColumnarError.TheVariants.{OutOfMemory, TooLarge}
use Rattle.col_model.specs.Order.{Order, stack, shuffle}
use Rattle.col_column.specs.Columns.{IsCounted}
use Rattle.col_numbers.specs.NumValues.{num_values_of}
use Rattle.col_text.specs.Texts.{Texts, AreOrdinals}
use Rattle.col_merge_texts.specs.Items.{terms_of, item_at, IsAmong}
use Rattle.col_merge_values.specs.Merges.{picked_row}
use Rattle.col_merge_values.specs.TermColumns.{term_columns}
use Rattle.col_merge_texts.specs.Merged.{has_long_terms}
use Rattle.col_merge_texts.specs.Noting.{Noted, IsNoted}

-- what each column of terms keeps: ordinals are those of terms, and the index counts them
pub record AreTold (c : Texts) : Type 0 where
  pub ordinals : AreOrdinals c.terms c.ords
  pub counted : IsCounted c.ords.shape (length (num_values_of c.ords.values))

-- a place: a segment, and an ordinal there
abbrev pub Place : Type 0
Place = ℕ × ℕ

-- a term stands at the place
abbrev pub IsPlace : List Texts → Place → Type 0
IsPlace columns p = is_some (item_at (terms_of columns) p) ≡ true

-- one of the rows has a value of this place
pub record IsPicked (columns : List Texts) (rows : List (ℕ × ℕ)) (p : Place) : Type 0 where
  pub row : ℕ × ℕ
  pub named : IsAmong row rows
  pub segment : p.0 ≡ row.0
  pub held : IsAmong p.1 (picked_row (term_columns columns) row)

-- The merged column takes the term: a stack takes all, a shuffle those that picked rows have.
abbrev pub IsTaken : List Texts → Order → Place → Type 0
IsTaken columns (stack counts) p = IsPlace columns p
IsTaken columns (shuffle counts rows) p = IsPicked columns rows p

-- the places of a segment from an ordinal on, and those of the segments behind it
abbrev pub IsFrom : ℕ → ℕ → Place → Type 0
IsFrom segment ord p = (segment < p.0) ⊎ ((p.0 ≡ segment) × (ord ≤ p.1))

-- places of a segment with these ordinals, and those of rows
abbrev pub IsAhead : List Texts → ℕ → List ℕ → List (ℕ × ℕ) → Place → Type 0
IsAhead columns segment ords rows p =
    ((p.0 ≡ segment) × IsAmong p.1 ords) ⊎ IsPicked columns rows p

-- no place
abbrev pub IsNowhere : Place → Type 0
IsNowhere p = ⊥

-- the term of an id stands at one of the places
pub record StandsAt (columns : List Texts) (Whole : Place → Type 0) (n : Noted) (id : ℕ)
    : Type 0 where
  pub place : Place
  pub whole : Whole place
  pub is : slice_get n.terms id ≡ item_at (terms_of columns) place

-- Places that are to be noted either are left or have their ids, and each term is one of them.
pub record AreNoted (columns : List Texts) (Whole Left : Place → Type 0) (n : Noted) : Type 0 where
  pub lengths : map length n.ids ≡ map length (terms_of columns)
  pub ids : (p : Place) (id : ℕ) → item_at n.ids p ≡ Some (Some id)
      → slice_get n.terms id ≡ item_at (terms_of columns) p
  pub whole : (p : Place) → Whole p → IsPlace columns p
  pub told : (p : Place) → Whole p → Left p ⊎ IsNoted n p
  pub from : (id : ℕ) → id < length n.terms → StandsAt columns Whole n id

-- Of a picked row these ordinals are left, and then later rows.
pub record TakesRow (columns : List Texts) (rows later : List (ℕ × ℕ)) (segment : ℕ)
    (ords : List ℕ) (n : Noted) : Type 0 where
  pub noted : AreNoted columns (IsPicked columns rows) (IsAhead columns segment ords later) n
  pub held : AllByRecursion (λ ord. IsPicked columns rows (segment, ord)) ords

-- Terms aren't noted for want of memory, or since 32 bits don't count the bytes of those that are
-- taken.
abbrev pub IsTakeRefusal : List Texts → Order → ColumnarError → Type 0
IsTakeRefusal columns order e =
    (e ≡ OutOfMemory) ⊎ ((e ≡ TooLarge) × (has_long_terms columns order ≡ true))
