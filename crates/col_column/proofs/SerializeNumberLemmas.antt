-- Numbers of a column and the bytes around them, as they are written.
use Rattle.std.proofs.Common.{◌≡◌, ℕ, ◌<◌, ◌^◌, ◌&&◌, Bool, true, false, cond, List, [], ◌∷◌, ◌++◌, length, slice_get, unwrap_or, Option, Some, None, Result, Ok, refl, sym, ap, ◌∙◌, subst, append_assoc, true≢false}
use Rattle.std.specs.Option.{IfSome}
use Rattle.std.specs.Int.{w64, to_le_bytes}
use Rattle.std.specs.List.{list_all}
use Rattle.std.proofs.lemmas.Option.{same_Some, none-some}
use Rattle.col_common.specs.Ascending.{AreBelow}
use Rattle.col_common.specs.Outside.{SeenSink}
use Rattle.col_common.specs.Serializing.{Serializes}
use Rattle.col_common.specs.declared.error.ColumnarError.{ColumnarError}
use Rattle.col_common.proofs.SerializingLemmas.{serializes-then}
use Rattle.col_model.specs.Codecs.{chosen_codec, chosen_before, codec_bytes, estimate, bitpacked_estimate, is_not_below}
use Rattle.col_model.specs.Spelling.{column_bytes}
use Rattle.col_model.specs.U64List.{values64}
use Rattle.col_model.proofs.ChosenLaws.{values64-chosen}
use Rattle.col_model.proofs.DecodedNumbers.{values64-within}
use Rattle.col_numbers.specs.Written.{AppendsList}
use Rattle.col_indexer.specs.Spelling.{Index, index_bytes}
use Rattle.col_column.specs.Written.{numbers_bytes, number_column_bytes}

-- ---- which codec is chosen

abbrev IsChosen : Option ℕ → Type 0
IsChosen o = (codec : ℕ) × (o ≡ Some codec)

-- a codec with an estimate, or the one that is chosen of the later ones
this_or_later : (xs : List ℕ) (c : ℕ) (cs : List ℕ) (later : Option ℕ) (e : ℕ)
    → (list_all (λ d. is_not_below e (estimate xs d)) cs ≡ false → IsChosen later)
    → IsChosen (chosen_before xs c cs later (Some e))
this_or_later xs c cs later e h = by_test (list_all (λ d. is_not_below e (estimate xs d)) cs) h
  where
    by_test : (b : Bool) → (b ≡ false → IsChosen later) → IsChosen (cond b (Some c) later)
    by_test true h = (c, refl)
    by_test false h = h refl

-- the same, whether the codec has an estimate or not, where an estimate isn't the least
by_estimate : (xs : List ℕ) (c : ℕ) (cs : List ℕ) (later o : Option ℕ) (e : ℕ)
    → ((f : ℕ) → list_all (λ d. is_not_below f (estimate xs d)) cs ≡ false → IsChosen later)
    → (is_not_below e o && list_all (λ d. is_not_below e (estimate xs d)) cs) ≡ false
    → IsChosen (chosen_before xs c cs later o)
by_estimate xs c cs later None e rest p = rest e p
by_estimate xs c cs later (Some f) e rest p = this_or_later xs c cs later f (rest f)

later_chosen : (xs cs : List ℕ) (e : ℕ) → list_all (λ d. is_not_below e (estimate xs d)) cs ≡ false → IsChosen (chosen_codec xs cs)
unfolding chosen_codec
later_chosen xs [] e p = absurd (true≢false p)
later_chosen xs (c ∷ cs) e p = by_estimate xs c cs (chosen_codec xs cs) (estimate xs c) e (later_chosen xs cs) p

-- one is chosen where Bitpacked, whose code is 0, is offered first
pub bitpacked-chosen : (codecs xs : List ℕ) → slice_get codecs 0 ≡ Some 0 → IsChosen (chosen_codec xs codecs)
unfolding chosen_codec
bitpacked-chosen [] xs e = absurd (none-some 0 e)
bitpacked-chosen (c ∷ cs) xs e =
    let has : estimate xs c ≡ Some (bitpacked_estimate xs) = ap (estimate xs) (same_Some c 0 e) in
    subst (λ o. IsChosen (chosen_before xs c cs (chosen_codec xs cs) o)) (sym has) (this_or_later xs c cs
    (chosen_codec xs cs) (bitpacked_estimate xs) (later_chosen xs cs (bitpacked_estimate xs)))

numbers_bytes-chosen : (codecs xs : List ℕ) (codec : ℕ) → chosen_codec xs codecs ≡ Some codec
    → numbers_bytes codecs xs ≡ codec_bytes codec xs
unfolding numbers_bytes
numbers_bytes-chosen codecs xs codec e = ap (λ o. codec_bytes (unwrap_or o 0) xs) e

-- ---- numbers

-- numbers are written as their bytes where they are written under the codec chosen for them
pub numbers-written : (old new : SeenSink) (result : Result (Unit {0}) ColumnarError) (codecs xs : List ℕ) (n : ℕ)
    → slice_get codecs 0 ≡ Some 0 → n < 2 ^ 32
    → IfSome (chosen_codec xs codecs) (λ codec. n < 2 ^ 32 → Serializes old new result (codec_bytes codec xs))
    → Serializes old new result (numbers_bytes codecs xs)
numbers-written old new result codecs xs n e few h =
    let p = bitpacked-chosen codecs xs e in
    let at : n < 2 ^ 32 → Serializes old new result (codec_bytes p.0 xs) =
    subst (λ o. IfSome o (λ codec. n < 2 ^ 32 → Serializes old new result (codec_bytes codec xs))) p.1 h in
    subst (Serializes old new result) (sym (numbers_bytes-chosen codecs xs p.0 p.1)) (at few)

-- a list that was appended has numbers of 64 bits
pub appended-fit : (old new : SeenSink) (xs : List ℕ) → AppendsList old new xs → AreBelow (2 ^ 64) xs
appended-fit old new xs a = (values64-within a.0 xs a.1).below

-- fewer than 2 ^ 32 numbers of 64 bits are read back from their bytes, with Bitpacked first on
-- offer
pub numbers-read : (codecs xs : List ℕ) → slice_get codecs 0 ≡ Some 0 → AreBelow (2 ^ 64) xs → length xs < 2 ^ 32
    → values64 (numbers_bytes codecs xs) ≡ Some xs
numbers-read codecs xs e fit few =
    let p = bitpacked-chosen codecs xs e in
    ap values64 (numbers_bytes-chosen codecs xs p.0 p.1) ∙ values64-chosen codecs xs p.0 fit few p.1

-- ---- what stands around them

-- a length behind bytes
pub length-behind :
    (a b d : SeenSink) (end : Unit {0}) (result : Result (Unit {0}) ColumnarError) (len : ℕ) (values bytes : List ℕ)
    → bytes ≡ to_le_bytes w64 len → Serializes a b (Ok end) values → Serializes b d result bytes
    → Serializes a d result (values ++ to_le_bytes w64 len)
length-behind a b d end result len values bytes e front rest =
    serializes-then a b d end result values (to_le_bytes w64 len) front (subst (Serializes b d result) e rest)

-- an index in front of values and the index's length
pub column-written :
    (a b d : SeenSink) (end : Unit {0}) (result : Result (Unit {0}) ColumnarError) (len : ℕ) (index values : List ℕ)
    → len ≡ length index → Serializes a b (Ok end) index → Serializes b d result (values ++ to_le_bytes w64 len)
    → Serializes a d result (column_bytes index values)
unfolding column_bytes
column-written a b d end result len index values e front rest =
    let whole = serializes-then a b d end result index (values ++ to_le_bytes w64 (length index)) front
    (subst (λ n. Serializes b d result (values ++ to_le_bytes w64 n)) e rest) in
    subst (Serializes a d result) (sym (append_assoc index values (to_le_bytes w64 (length index)))) whole

-- an index, numbers and the index's length are written as the bytes of a column
pub number_column-written : (a b d : SeenSink) (end : Unit {0}) (result : Result (Unit {0}) ColumnarError) (len : ℕ)
    (i : Index) (codecs xs : List ℕ) → len ≡ length (index_bytes i) → Serializes a b (Ok end) (index_bytes i)
    → Serializes b d result (numbers_bytes codecs xs ++ to_le_bytes w64 len)
    → Serializes a d result (number_column_bytes codecs i xs)
unfolding number_column_bytes
number_column-written a b d end result len i codecs xs = column-written a b d end result len (index_bytes i) (numbers_bytes codecs xs)
