-- Rows as builders record them.
use Rattle.std.specs.Prelude.{◌≡◌, ℕ, ◌+◌, ◌<◌, ◌==◌, not, true, List, [], ◌∷◌, length}
use Rattle.std.specs.List.{list_all}
use Rattle.col_common.specs.Ascending.{is_rising, is_never_falling, are_below}
use Rattle.col_model.specs.Index.{RowOffsets, are_offsets}
use Rattle.col_model.specs.Positions.{starts_of}

-- a row that comes after these rows
abbrev pub IsAfter : List ℕ → ℕ → Type 0
IsAfter rows row = are_below row rows ≡ true

-- rows that were recorded, each with its number of values
pub record RecordedRows : Type 0 where
  pub rows : List ℕ
  pub counts : List ℕ

-- nothing was recorded
abbrev pub nothing_recorded : RecordedRows
nothing_recorded = record { rows = []; counts = [] }

-- the last of the rows has one value more
unfoldable pub with_value : List ℕ → List ℕ
with_value [] = []
with_value (c ∷ []) = (c + 1) ∷ []
with_value (c ∷ d ∷ cs) = c ∷ with_value (d ∷ cs)

-- each row has a value
abbrev pub AllHaveValues : List ℕ → Type 0
AllHaveValues counts = list_all (λ c. not (c == 0)) counts ≡ true

-- a builder's rows and offsets: none yet, or one offset more than rows
pub record IsRecording (rows offsets : List ℕ) : Type 0 where
  pub rise : is_rising rows ≡ true
  pub many : (0 < length offsets) → length offsets ≡ length rows + 1
  pub none : length offsets ≡ 0 → rows ≡ []
  pub offsets_are : (0 < length offsets) → are_offsets offsets ≡ true
  pub never_fall : is_never_falling offsets ≡ true

-- the index of rows that were recorded
abbrev pub recorded_index : ℕ → RecordedRows → RowOffsets
recorded_index n r =
    record { set = record { num_rows = n; rows = r.rows }; starts = starts_of r.counts }
