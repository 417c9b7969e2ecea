-- Lists of an index, as they are written.
use Rattle.std.proofs.Common.{◌≡◌, ℕ, ◌+◌, ◌-◌, ◌^◌, ◌<◌, nat_le, false, List, [], ◌∷◌, ◌++◌, length, map, Some, Result, Ok, Err, refl, sym, ap, ◌∙◌, arith, subst, length-append}
use Rattle.std.specs.Option.{IfSome}
use Rattle.std.specs.Int.{w64, to_le_bytes}
use Rattle.std.proofs.lemmas.List.{map-id}
use Rattle.std.proofs.lemmas.Option.{same_Some}
use Rattle.col_common.specs.Outside.{SeenSink}
use Rattle.col_common.specs.Serializing.{Serializes}
use Rattle.col_common.specs.declared.error.ColumnarError.{ColumnarError}
use Rattle.col_common.proofs.SerializingLemmas.{serializes-then, serializes-stopped}
use Rattle.col_model.specs.Table.{cardinality_code}
use Rattle.col_model.specs.Index.{RowOffsets}
use Rattle.col_model.specs.Codecs.{chosen_codec, codec_bytes, estimate}
use Rattle.col_indexer.specs.Spelling.{Index, full_index, optional_index, multivalued_index, index_codecs, index_list_bytes, row_set_bytes, row_offsets_bytes, body_bytes, index_bytes, AreRowsOf32, AreOffsetsOf32, IsIndex, is_past_limit}
use Rattle.col_indexer.specs.Written.{cardinality_written}
use Rattle.col_indexer.proofs.ByteCountLemmas.{index_codec, list_bytes-picked, list_bytes-most}
use Rattle.col_indexer.proofs.SetSpellingLemmas.{row_set_bytes-few}
use Rattle.col_indexer.proofs.SpellingLemmas.{starts-few}

-- what is said of the codec that is chosen for a list
at_picked : (P : ℕ → List ℕ → Type 0) (xs : List ℕ)
    → IfSome (chosen_codec (map (λ x. x) xs) index_codecs) (λ codec. P codec (map (λ x. x) xs))
    → P (index_codec xs).0 xs
at_picked P xs h =
    let h' = subst (λ ys. IfSome (chosen_codec ys index_codecs) (λ codec. P codec ys)) (map-id xs) h in
    subst (λ o. IfSome o (λ codec. P codec xs)) (index_codec xs).1 h'

-- a list is written as its bytes where it is written under the codec chosen for it
pub list-written : (old new : SeenSink) (result : Result (Unit {0}) ColumnarError) (xs : List ℕ)
    → length xs < 2 ^ 32 → IfSome (chosen_codec (map (λ x. x) xs) index_codecs)
    (λ codec. length xs < 2 ^ 32 → Serializes old new result (codec_bytes codec (map (λ x. x) xs)))
    → Serializes old new result (index_list_bytes xs)
list-written old new result xs few h =
    let p = index_codec xs in
    let at = at_picked (λ codec ys. length xs < 2 ^ 32 → Serializes old new result (codec_bytes codec ys)) xs h few in
    subst (Serializes old new result) (sym (list_bytes-picked xs p.0 p.1)) at

-- it takes one byte more than its estimate
pub list-long : (xs : List ℕ) (n : ℕ)
    → IfSome (chosen_codec (map (λ x. x) xs) index_codecs) (λ codec. estimate (map (λ x. x) xs) codec ≡ Some n)
    → 1 + n ≡ length (index_list_bytes xs)
list-long xs n h =
    let p = index_codec xs in
    let e = same_Some _ _ (sym p.2.estimated ∙ at_picked (λ codec ys. estimate ys codec ≡ Some n) xs h) in
    sym (ap length (list_bytes-picked xs p.0 p.1) ∙ p.2.long ∙ ap (λ m. 1 + m) e)

-- a list's bytes under the chosen codec, with its code, are fewer than 2 ^ 64
pub list-fits : (xs : List ℕ) (n : ℕ) → length xs < 2 ^ 32
    → IfSome (chosen_codec (map (λ x. x) xs) index_codecs) (λ codec. estimate (map (λ x. x) xs) codec ≡ Some n)
    → 1 + n < 2 ^ 64
list-fits xs n few h = omega (arith, list-long xs n h, list_bytes-most xs)

-- ---- two parts, and how many bytes the first one takes

-- the second part was not written to its end
pub parts-stopped : (a b d : SeenSink) (end : Unit {0}) (e : ColumnarError) (xs ys : List ℕ)
    → Serializes a b (Ok end) xs → Serializes b d (Err e) ys
    → Serializes a d (Err e) (xs ++ (ys ++ to_le_bytes w64 (length xs)))
parts-stopped a b d end e xs ys first second =
    serializes-stopped a d e (xs ++ ys) (xs ++ (ys ++ to_le_bytes w64 (length xs)))
    (serializes-then a b d end (Err e) xs ys first second)

-- both parts were, and the length behind them
pub parts-written : (a b d f : SeenSink) (end : Unit {0}) (result : Result (Unit {0}) ColumnarError) (len : ℕ)
    (bytes xs ys : List ℕ) → len ≡ length xs → bytes ≡ to_le_bytes w64 len
    → Serializes a b (Ok end) xs → Serializes b d (Ok end) ys → Serializes d f result bytes
    → Serializes a f result (xs ++ (ys ++ to_le_bytes w64 (length xs)))
parts-written a b d f end result len bytes xs ys e same first second rest =
    let length_bytes = to_le_bytes w64 (length xs) in
    serializes-then a b f end result xs (ys ++ length_bytes) first
    (serializes-then b d f end result ys length_bytes second
    (subst (Serializes d f result) (same ∙ ap (to_le_bytes w64) e) rest))

-- both parts and eight bytes are as long as all of it
pub parts-long : (front rest : ℕ) (xs ys : List ℕ) → front ≡ length xs → rest ≡ length ys
    → front + rest + 8 ≡ length (xs ++ (ys ++ to_le_bytes w64 (length xs)))
parts-long front rest xs ys f r =
    let behind : length (ys ++ to_le_bytes w64 (length xs)) ≡ length ys + 8 = length-append ys (to_le_bytes w64 (length xs)) in
    omega (arith, length-append xs (ys ++ to_le_bytes w64 (length xs)))

-- ---- rows and start offsets

-- the offsets were not written to their end
pub offsets-stopped : (a b d : SeenSink) (end : Unit {0}) (e : ColumnarError) (o : RowOffsets)
    → Serializes a b (Ok end) (row_set_bytes o.set) → Serializes b d (Err e) (index_list_bytes o.starts)
    → Serializes a d (Err e) (row_offsets_bytes o)
unfolding row_offsets_bytes
offsets-stopped a b d end e o rows starts = parts-stopped a b d end e (row_set_bytes o.set) (index_list_bytes o.starts) rows starts

-- rows with start offsets are written as the rows, the offsets and the length of the rows' bytes
pub row_offsets-written : (a b d f : SeenSink) (end : Unit {0}) (result : Result (Unit {0}) ColumnarError) (len : ℕ)
    (bytes : List ℕ) (o : RowOffsets) → len ≡ length (row_set_bytes o.set) → bytes ≡ to_le_bytes w64 len
    → Serializes a b (Ok end) (row_set_bytes o.set) → Serializes b d (Ok end) (index_list_bytes o.starts)
    → Serializes d f result bytes → Serializes a f result (row_offsets_bytes o)
unfolding row_offsets_bytes
row_offsets-written a b d f end result len bytes o e same rows starts rest =
    parts-written a b d f end result len bytes (row_set_bytes o.set) (index_list_bytes o.starts) e same rows starts rest

-- the rows, the offsets and eight bytes are as long as the bytes of both
pub row_offsets-long : (front rest : ℕ) (o : RowOffsets) → front ≡ length (row_set_bytes o.set)
    → rest ≡ length (index_list_bytes o.starts) → front + rest + 8 ≡ length (row_offsets_bytes o)
unfolding row_offsets_bytes
row_offsets-long front rest o f r = parts-long front rest (row_set_bytes o.set) (index_list_bytes o.starts) f r

-- 64 bits say how long they are
pub row_offsets-fits : (front rest : ℕ) (o : RowOffsets) → AreOffsetsOf32 o
    → nat_le (2 ^ 32 - 1) (length o.set.rows) ≡ false → front ≡ length (row_set_bytes o.set)
    → rest ≡ length (index_list_bytes o.starts) → front + rest < 2 ^ 37
row_offsets-fits front rest o a limit f r =
    let set : AreRowsOf32 o.set = record { rows = a.offsets.rows; fits = a.fits } in
    omega (arith, row_set_bytes-few o.set set, list_bytes-most o.starts, starts-few o a limit)

-- ---- indexes

index_code : (i : Index) → index_bytes i ≡ cardinality_code (cardinality_written i) ∷ body_bytes i
unfolding index_bytes
index_code full_index = refl
index_code (optional_index s) = refl
index_code (multivalued_index o) = refl

-- an index is written as the code of its cardinality and what stands behind it
pub index-written :
    (a b d : SeenSink) (end : Unit {0}) (result : Result (Unit {0}) ColumnarError) (code : ℕ) (i : Index)
    → code ≡ cardinality_code (cardinality_written i) → Serializes a b (Ok end) (code ∷ [])
    → Serializes b d result (body_bytes i) → Serializes a d result (index_bytes i)
index-written a b d end result code i e front rest =
    subst (Serializes a d result) (ap (λ c. c ∷ body_bytes i) e ∙ sym (index_code i))
    (serializes-then a b d end result (code ∷ []) (body_bytes i) front rest)

-- an index is one byte longer than what stands behind its code
pub index-long : (rest : ℕ) (i : Index) → rest ≡ length (body_bytes i) → 1 + rest ≡ length (index_bytes i)
index-long rest i e = omega (arith, ap length (index_code i))

-- the bytes of an index within the limit are fewer than 2 ^ 64
pub index-fits : (rest : ℕ) (i : Index) → IsIndex i → is_past_limit i ≡ false → rest ≡ length (body_bytes i) → 1 + rest < 2 ^ 64
index-fits rest full_index a limit e = omega arith
index-fits rest (optional_index s) a limit e = omega (arith, row_set_bytes-few s a)
index-fits rest (multivalued_index o) a limit e =
    omega (
      arith,
      row_offsets-fits (length (row_set_bytes o.set)) (length (index_list_bytes o.starts)) o a limit refl refl,
      row_offsets-long (length (row_set_bytes o.set)) (length (index_list_bytes o.starts)) o refl refl,
    )
