-- The hashes of terms, ids in chains by their hashes, and ids that stand apart.
use Rattle.std.specs.Prelude.{◌≡◌, ◌≢◌, ℕ, zero, suc, ◌+◌, ◌-◌, ◌*◌, ◌/◌, ◌%◌, ◌^◌, ◌<◌, ◌≤◌, bit_and, bit_xor, bytes_eq, List, length, drop, slice_index, slice_index_or, [], Option, Some, ◌⊎◌}
use Rattle.std.specs.BTreeMap.{BTreeMap, get_by}
use Rattle.std.specs.Cmp.Lexicographic.{slice_cmp}
use Rattle.std.specs.List.{IsDistinct}
use Rattle.std.specs.Ordering.{nat_cmp}
use Rattle.std.specs.declared.alloc.Global.{Global}
use Rattle.std.specs.declared.vec.Vec.{Vec}
use Rattle.col_terms.specs.declared.table.TheConstants.{HEAD_NUM_BYTES}
use Rattle.col_terms.specs.declared.term_hash.TheConstants.{MULTIPLIER}
use Rattle.col_terms.specs.TermTable.{head_of}

-- ---- the hash of a term

-- a number mixed into a hash
unfoldable pub mixed : ℕ → ℕ → ℕ
mixed hash word =
    let product = bit_xor hash word * MULTIPLIER % 2 ^ 64 in
    bit_xor product (product / 2 ^ 32)

-- so many words of these bytes, mixed into a hash
unfoldable pub mixed_words : ℕ → ℕ → List ℕ → ℕ
mixed_words zero hash bytes = hash
mixed_words (suc n) hash bytes =
    mixed_words n (mixed hash (head_of bytes)) (drop HEAD_NUM_BYTES bytes)

-- The hash of a term: its words, the word of its last bytes and its length are mixed, and the high
-- half is taken.
unfoldable pub hash_of : List ℕ → ℕ
hash_of t =
    let words = mixed_words (length t / HEAD_NUM_BYTES) 0 t in
    mixed (mixed words (head_of (drop (length t - HEAD_NUM_BYTES) t))) (length t) / 2 ^ 32

-- ---- ids in chains

-- the hashes of so many ids, in a list that may have room for more
pub record Hashes : Type 0 where
  pub hashes : List ℕ
  pub count : ℕ

-- the chain of a hash, of so many
abbrev pub chain_of : ℕ → ℕ → ℕ
chain_of num_chains hash = bit_and hash (num_chains - 1)

-- the chain of an id: there are as many as the list has places
abbrev pub chain_at : Hashes → ℕ → ℕ
chain_at h id = chain_of (length h.hashes) (slice_index h.hashes id)

-- one more than the last id of a chain that is below a bound, or 0 where there is none
pub record IsLast (h : Hashes) (chain bound at : ℕ) : Type 0 where
  pub within : at ≤ bound
  pub of_chain : 0 < at → chain_at h (at - 1) ≡ chain
  pub none_above : (id : ℕ) → at ≤ id → id < bound → chain_at h id ≢ chain

-- for each chain its last id, and for each id the one before it in its chain
pub record AreChains (heads older : List ℕ) (h : Hashes) : Type 0 where
  pub heads_long : length heads ≡ length h.hashes
  pub older_long : length older ≡ length h.hashes
  pub within : h.count ≤ length h.hashes
  pub last_ids : (chain : ℕ) → chain < length h.hashes
      → IsLast h chain h.count (slice_index heads chain)
  pub ids_before : (id : ℕ) → id < h.count → IsLast h (chain_at h id) id (slice_index older id)

-- the same ids have the same hashes
pub record KeepsHashes (old new : Hashes) : Type 0 where
  pub count : new.count ≡ old.count
  pub hashes : (id : ℕ) → id < old.count
      → slice_index new.hashes id ≡ slice_index old.hashes id

-- one id more, with a hash
pub record AddsHash (old : Hashes) (hash : ℕ) (new : Hashes) : Type 0 where
  pub count : new.count ≡ old.count + 1
  pub room : length new.hashes ≡ length old.hashes
  pub last : slice_index new.hashes old.count ≡ hash
  pub others : (id : ℕ) → id < old.count
      → slice_index new.hashes id ≡ slice_index old.hashes id

-- ---- terms with their ids

-- ids under terms, in the order of the terms
abbrev pub IdsApart : Type 0
IdsApart = BTreeMap (Vec ℕ Global) ℕ

-- the id under a term
abbrev pub id_apart : IdsApart → List ℕ → Option ℕ
id_apart m t = get_by (λ k. slice_cmp nat_cmp t k.items) m

-- the hash under which an id stands is that of its term, or its id stands apart
abbrev pub IsPlaced : IdsApart → List ℕ → ℕ → ℕ → Type 0
IsPlaced m t id place = (place ≡ hash_of t) ⊎ (id_apart m t ≡ Some id)

-- under other terms than this one stand the same ids
abbrev pub KeepsOtherIds : List ℕ → IdsApart → IdsApart → Type 0
KeepsOtherIds t old new = (other : List ℕ) → other ≢ t → id_apart new other ≡ id_apart old other

-- no id that stands apart under a term is that of the term
abbrev pub IsNotApart : List (List ℕ) → IdsApart → List ℕ → Type 0
IsNotApart ts m t = (id : ℕ) → id < length ts → id_apart m t ≡ Some id → slice_index_or ts id [] ≢ t

-- terms that differ: each is in the chain of its hash, or its id stands apart
pub record AreHashed (ts : List (List ℕ)) (h : Hashes) (m : IdsApart) : Type 0 where
  pub differ : IsDistinct bytes_eq ts
  pub few : length ts ≤ 2 ^ 32 - 1
  pub count : h.count ≡ length ts
  pub found : (id : ℕ) → id < length ts
      → IsPlaced m (slice_index_or ts id []) id (slice_index h.hashes id)
