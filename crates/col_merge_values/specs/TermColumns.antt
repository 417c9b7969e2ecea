-- Columns of terms whose ordinals are turned into those of other terms.
use Rattle.std.specs.Prelude.{ℕ, List, map, zip, slice_index}
use Rattle.col_numbers.specs.NumValues.{num_values_of}
use Rattle.col_text.specs.Texts.{Texts}
use Rattle.col_merge_values.specs.Merges.{SegmentColumns, columns_by}

-- for each ordinal the item of the mapping, 0 where there is none
abbrev pub remapped : List ℕ → List ℕ → List ℕ
remapped mapping ords = map (slice_index mapping) ords

-- the ordinals of a column
abbrev pub ords_of : Texts → List ℕ
ords_of t = num_values_of t.ords.values

-- columns of terms, as columns of ordinals
abbrev pub term_columns : List Texts → SegmentColumns ℕ
term_columns texts = columns_by (map (λ t. t.ords.shape) texts) (map ords_of texts)

-- the same, the ordinals of each by its own mapping
abbrev pub remapped_columns : List Texts → List (List ℕ) → SegmentColumns ℕ
remapped_columns texts mappings = columns_by (map (λ t. t.ords.shape) texts)
    (map (λ p. remapped p.1 (ords_of p.0)) (zip texts mappings))
