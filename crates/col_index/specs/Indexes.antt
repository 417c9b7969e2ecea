-- What indexes mean.
use Rattle.std.specs.Prelude.{◌≡◌, ◌==◌, ℕ}
use Rattle.col_model.specs.Index.{Shape, empty_shape, full_shape, optional_shape, multivalued_shape, set_counts}
use Rattle.col_index.specs.MultiValues.{value_counts_of, has_old_offsets}
use Rattle.col_index.specs.declared.column_index.ColumnIndex.{ColumnIndex}
use Rattle.col_index.specs.declared.column_index.ColumnIndex.TheVariants.{Empty, Full, Optional, Multivalued}

-- the shape of an index
abbrev pub shape_of : ColumnIndex → Shape
shape_of (Empty n) = empty_shape n
shape_of Full = full_shape
shape_of (Optional i) = optional_shape (set_counts i)
shape_of (Multivalued i) = multivalued_shape (value_counts_of i)

-- The index has the form of a version, as far as what is kept differs: one of several values a row
-- has the start offsets of all rows exactly in version 1.
abbrev pub IsOfVersion : ℕ → ColumnIndex → Type 0
IsOfVersion version (Multivalued i) = has_old_offsets i ≡ (version == 1)
IsOfVersion version i = Unit {0}
