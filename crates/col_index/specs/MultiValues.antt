-- What indexes of rows with any number of values mean.
use Rattle.std.specs.Prelude.{ℕ, Bool, true, false, List}
use Rattle.col_common.specs.Ascending.{differences}
use Rattle.col_model.specs.Index.{offset_counts}
use Rattle.col_index.specs.declared.multivalued_index.MultiValueIndex.{MultiValueIndex}
use Rattle.col_index.specs.declared.multivalued_index.MultiValueIndex.TheVariants.{MultiValueIndexV1, MultiValueIndexV2}

-- how many values each row has
abbrev pub value_counts_of : MultiValueIndex → List ℕ
value_counts_of (MultiValueIndexV1 i) = differences i
value_counts_of (MultiValueIndexV2 i) = offset_counts i

-- the start offsets as the index has them: of all rows in version 1, later of rows with a value
abbrev pub offsets_kept : MultiValueIndex → List ℕ
offsets_kept (MultiValueIndexV1 i) = i
offsets_kept (MultiValueIndexV2 i) = i.starts

-- the index has the start offsets of all rows
abbrev pub has_old_offsets : MultiValueIndex → Bool
has_old_offsets (MultiValueIndexV1 i) = true
has_old_offsets (MultiValueIndexV2 i) = false
