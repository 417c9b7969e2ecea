-- What is written of an index is read back.
use Rattle.std.proofs.Common.{◌≡◌, ◌+◌, ◌^◌, ◌<◌, ◌-◌, ◌==◌, ◌&&◌, nat_lt, nat_le, false, length, Some, refl, arith, lit≤, append_assoc}
use Rattle.std.specs.List.{list_all}
use Rattle.std.specs.Int.{w64, to_le_bytes}
use Rattle.std.proofs.lemmas.Bool.{and_parts, eqb-true, leb-false}
use Rattle.col_common.specs.Ascending.{is_rising}
use Rattle.col_model.specs.Index.{RowOffsets, are_offsets, row_offsets, shape}
use Rattle.col_model.specs.U64List.{values64}
use Rattle.col_model.specs.Version.{current_version}
use Rattle.col_model.proofs.ReadingLaws.{parts_by_first-w64}
use Rattle.col_indexer.specs.Spelling.{Index, full_index, optional_index, multivalued_index, index_list_bytes, row_set_bytes, row_offsets_bytes, index_bytes, index_shape, AreRowsOf32, AreOffsetsOf32, IsIndex, is_past_limit}
use Rattle.col_indexer.proofs.ListSpellingLemmas.{all_below, list-back}
use Rattle.col_indexer.proofs.SetSpellingLemmas.{row_set-back, row_set_bytes-few}

-- one offset more than rows
pub starts-few : (o : RowOffsets) → AreOffsetsOf32 o → nat_le (2 ^ 32 - 1) (length o.set.rows) ≡ false → length o.starts < 2 ^ 32
starts-few o a few =
    let long = eqb-true (length o.starts) (length o.set.rows + 1) (and_parts
    (are_offsets o.starts && is_rising o.starts) (length o.starts == length o.set.rows + 1)
    a.offsets.starts).1 in
    let below = leb-false (2 ^ 32 - 1) (length o.set.rows) few in
    omega arith

starts-back : (o : RowOffsets) → AreOffsetsOf32 o → nat_le (2 ^ 32 - 1) (length o.set.rows) ≡ false
    → values64 (index_list_bytes o.starts) ≡ Some o.starts
starts-back o a few =
    let offsets = (and_parts (are_offsets o.starts && is_rising o.starts) _ a.offsets.starts).0 in
    let below = (and_parts (are_offsets o.starts) (is_rising o.starts) offsets).0 in
    list-back o.starts (all_below (2 ^ 32) (2 ^ 64) o.starts (lit≤ tt)
    (and_parts _ (list_all (λ s. nat_lt s (2 ^ 32)) o.starts) below).1) (starts-few o a few)

-- rows with their start offsets are read back from their bytes, with fewer than 2 ^ 32 - 1 such
-- rows
pub row_offsets-back : (o : RowOffsets) → AreOffsetsOf32 o → nat_le (2 ^ 32 - 1) (length o.set.rows) ≡ false
    → row_offsets current_version (row_offsets_bytes o) ≡ Some o
unfolding row_offsets row_offsets_bytes
row_offsets-back o a limit =
    let set : AreRowsOf32 o.set = record { rows = a.offsets.rows; fits = a.fits } in
    let few = row_set_bytes-few o.set set in
    let long : length (row_set_bytes o.set) < 2 ^ 64 = omega arith in
    rw (
      ← append_assoc (row_set_bytes o.set) (index_list_bytes o.starts) (to_le_bytes w64 (length (row_set_bytes o.set))),
      parts_by_first-w64 (row_set_bytes o.set) (index_list_bytes o.starts) long,
      row_set-back o.set set,
      starts-back o a limit,
      a.offsets.starts,
    ) refl

-- an index within the limit has bytes that stand for its shape
pub index-back : (i : Index) → IsIndex i → is_past_limit i ≡ false → shape (index_bytes i) current_version ≡ Some (index_shape i)
unfolding shape index_bytes
index-back full_index a limit = refl
index-back (optional_index s) a limit = rw (row_set-back s a) refl
index-back (multivalued_index o) a limit = rw (row_offsets-back o a limit) refl
