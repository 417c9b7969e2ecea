-- Columns of terms that are put in order.
use Rattle.std.specs.Prelude.{◌≡◌, ℕ, Bool, true, List, [], ◌∷◌, length, slice_index_or, Option, Some, None, IfSome, IsPermutation}
use Rattle.std.specs.List.{AllByRecursion}
use Rattle.col_model.specs.ColumnType.{has_terms}
use Rattle.col_model.specs.Index.{empty_shape}
use Rattle.col_model.specs.Order.{all_rows}
use Rattle.col_numbers.specs.NumValues.{num_values_of}
use Rattle.col_column.specs.Columns.{IsCounted, rows_of_values}
use Rattle.col_text.specs.Texts.{Texts, AreOrdinals}
use Rattle.col_dynamic.specs.Dynamic.{type_of}
use Rattle.col_dynamic.specs.declared.dynamic_column.DynamicColumn.{DynamicColumn}
use Rattle.col_dynamic.specs.declared.dynamic_column.DynamicColumn.TheVariants as columns
use Rattle.col_sort.specs.Firsts.{first_keys}
use Rattle.col_sort.specs.Columns.{rows_by_cells}

-- so many rows without a term
pub record IsEmptyText (n : ℕ) (t : Texts) : Type 0 where
  pub terms : t.terms ≡ []
  pub shape : t.ords.shape ≡ empty_shape n

-- the column, or so many rows without a term
abbrev pub IsTextOr : ℕ → Option Texts → Texts → Type 0
IsTextOr n (Some c) t = t ≡ c
IsTextOr n None t = IsEmptyText n t

-- the terms of a segment of so many rows: those of its column, where it has one of terms
abbrev pub IsTextOf : ℕ → Option DynamicColumn → Texts → Type 0
IsTextOf n (Some (columns.Str c)) t = t ≡ c
IsTextOf n (Some (columns.Bytes c)) t = t ≡ c
IsTextOf n (Some (columns.Bool c)) t = IsEmptyText n t
IsTextOf n (Some (columns.I64 c)) t = IsEmptyText n t
IsTextOf n (Some (columns.U64 c)) t = IsEmptyText n t
IsTextOf n (Some (columns.IpAddr c)) t = IsEmptyText n t
IsTextOf n (Some (columns.DateTime c)) t = IsEmptyText n t
IsTextOf n None t = IsEmptyText n t

-- the same of all segments
unfoldable pub AreTexts : List ℕ → List (Option DynamicColumn) → List Texts → Type 0
AreTexts [] [] [] = Unit {0}
AreTexts (n ∷ ns) (o ∷ os) (t ∷ ts) = IsTextOf n o t × AreTexts ns os ts
AreTexts [] os (t ∷ ts) = ⊥
AreTexts [] (o ∷ os) [] = ⊥
AreTexts (n ∷ ns) [] ts = ⊥
AreTexts (n ∷ ns) (o ∷ os) [] = ⊥

-- Terms ascend, each value is the ordinal of one, and the index counts just the values.
pub record IsToldText (t : Texts) : Type 0 where
  pub ordinals : AreOrdinals t.terms t.ords
  pub counted : IsCounted t.ords.shape (length (num_values_of t.ords.values))

-- the place of each row's first term, by the places of a column's terms
abbrev pub term_keys : Texts → List ℕ → List (Option ℕ)
term_keys t places =
    first_keys (λ ord. slice_index_or places ord 0) (rows_of_values num_values_of t.ords)

-- the same of all segments
unfoldable pub all_term_keys : List Texts → List (List ℕ) → List (List (Option ℕ))
all_term_keys [] pss = []
all_term_keys (t ∷ ts) [] = []
all_term_keys (t ∷ ts) (ps ∷ pss) = term_keys t ps ∷ all_term_keys ts pss

-- each column is one of terms
abbrev pub HaveTerms : List (Option DynamicColumn) → Type 0
HaveTerms os = AllByRecursion (λ o. IfSome o (λ c. has_terms (type_of c) ≡ true)) os

-- Rows are all rows of segments with these row counts, in the order of their columns' cells where
-- the columns are of terms.
pub record SortsTexts (counts : List ℕ) (os : List (Option DynamicColumn)) (reversed : Bool)
    (rows : List (ℕ × ℕ)) : Type 0 where
  pub moved : IsPermutation (all_rows counts) rows
  pub sorted : HaveTerms os → rows ≡ rows_by_cells reversed os counts
