-- Columns of terms: a dictionary, and a column of ordinals.
use Rattle.std.specs.Prelude.{◌≡◌, ◌⊎◌, ℕ, ◌<◌, nat_le, nat_lt, Bool, true, false, List, [], length, String, string_bytes, Option, Some, None, Result, Ok, Err}
use Rattle.std.specs.Str.{IsUtf8}
use Rattle.std.specs.declared.alloc.Global.{Global}
use Rattle.col_common.specs.declared.error.ColumnarError.{ColumnarError}
use Rattle.col_common.specs.declared.error.ColumnarError.TheVariants.{OutOfMemory, NotUtf8}
use Rattle.col_common.specs.Ascending.{is_ascending, AreBelow}
use Rattle.col_model.specs.Column.{term_cell}
use Rattle.col_model.specs.Lookup.{is_at_most}
use Rattle.col_model.specs.Table.{Content, text}
use Rattle.col_column.specs.Columns.{Seen, content_seen}
use Rattle.col_column.specs.NumValues.{num_values_of}
use Rattle.col_column.specs.NumValuesType.{NumValues}

-- the terms, and the column of their ordinals
pub record Texts : Type 0 where
  pub terms : List (List ℕ)
  pub ords : Seen (NumValues ℕ)

-- the terms strictly ascend, and each value is the ordinal of one
pub record AreOrdinals (terms : List (List ℕ)) (ords : Seen (NumValues ℕ)) : Type 0 where
  pub ascend : is_ascending terms ≡ true
  pub below : AreBelow (length terms) (num_values_of ords.values)

-- what stands in the column
abbrev pub texts_content : Texts → Content
texts_content c =
    content_seen c.terms (term_cell c.terms) c.ords.shape (num_values_of c.ords.values)

-- the terms from a key on are those of the ordinals from a place on
abbrev pub StartAt : List (List ℕ) → List ℕ → ℕ → Type 0
StartAt terms key first = (n : ℕ) → n < length terms →
    is_at_most (text key) (term_cell terms n) ≡ nat_le first n

-- the terms up to a key are those of the ordinals before a place
abbrev pub EndAt : List (List ℕ) → List ℕ → ℕ → Type 0
EndAt terms key end = (n : ℕ) → n < length terms →
    is_at_most (term_cell terms n) (text key) ≡ nat_lt n end

-- The text of a term, where there is one. NotUtf8 says that it is no text; a refusal leaves
-- nothing.
abbrev pub ReadsText : Result Bool ColumnarError → String Global → Option (List ℕ) → Type 0
ReadsText (Ok found) output None = (found ≡ false) × (string_bytes output ≡ [])
ReadsText (Ok found) output (Some t) = (found ≡ true) × (string_bytes output ≡ t) × IsUtf8 t
ReadsText (Err e) output None = ⊥
ReadsText (Err e) output (Some t) = (string_bytes output ≡ [])
    × (((e ≡ OutOfMemory) × IsUtf8 t) ⊎ ((e ≡ NotUtf8) × (¬ IsUtf8 t)))
