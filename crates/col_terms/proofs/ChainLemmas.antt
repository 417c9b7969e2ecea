-- Terms with their ids, and a term that is looked for along a chain and apart.
use Rattle.std.proofs.Common.{◌≡◌, ◌≢◌, ℕ, ◌-◌, ◌^◌, ◌<◌, ◌≤◌, true, false, cond, List, [], ◌∷◌, ◌++◌, length, get_or, slice_get, bytes_eq, Option, Some, None, IfSome, IfNone, sym, ap, ◌∙◌, inl, inr, arith}
use Rattle.std.specs.List.{IsDistinct}
use Rattle.std.proofs.lemmas.Bool.{cases_eq, cases_order, true≢false, false_from_ne_true}
use Rattle.std.proofs.lemmas.Option.{same_Some, slice_get-get_or, slice_get_within}
use Rattle.std.proofs.lemmas.Cmp.{nat_list_eq_equiv}
use Rattle.std.proofs.lemmas.List.{length_push, get_or_push, get_or_append_left, get_or_default}
use Rattle.std.proofs.lemmas.List.Folds.{list_any_none}
use Rattle.std.proofs.lemmas.Map.Keys.{IsDistinct-push}
use Rattle.col_terms.specs.Building.{is_known, id_of, known_id}
use Rattle.col_terms.specs.Hashing.{Hashes, hash_of, chain_of, chain_at, IsLast, KeepsHashes, AddsHash, IdsApart, id_apart, IsNotApart, IsPlaced, KeepsOtherIds, AreHashed}
use Rattle.col_terms.proofs.PlaceLemmas.{same_bytes, same_place, known_at}
use Rattle.col_model.proofs.OrderingLaws.{bytes_eq-true}

-- ---- terms with their ids

-- before the first term none is known
pub hashed-none : (h : Hashes) (m : IdsApart) → h.count ≡ 0 → AreHashed [] h m
unfolding IsDistinct
hashed-none h m e = record { differ = tt; few = omega arith; count = e; found = λ id below. absurd (omega arith) }

-- hashes that stay the same are still those of the terms
pub hashed-kept : (ts : List (List ℕ)) (h k : Hashes) (m : IdsApart) → AreHashed ts h m → KeepsHashes h k → AreHashed ts k m
hashed-kept ts h k m a kept = record {
  differ = a.differ;
  few = a.few;
  count = kept.count ∙ a.count;
  found = λ id below.
      elim (a.found id below) [
        | inl own ↦ inl (kept.hashes id (let n = a.count in omega arith) ∙ own)
        | inr apart ↦ inr apart
      ];
}

-- a term that isn't there may get any id apart
pub hashed-apart : (ts : List (List ℕ)) (t : List ℕ) (h : Hashes) (m n : IdsApart) → AreHashed ts h m → KeepsOtherIds t m n
    → is_known ts t ≡ false → AreHashed ts h n
hashed-apart ts t h m n a others fresh = record {
  differ = a.differ;
  few = a.few;
  count = a.count;
  found = λ id below.
      elim (a.found id below) [
        | inl own ↦ inl own
        | inr apart ↦ inr (others (get_or ts id [])
            (λ same. true≢false (sym (known_at ts id below) ∙ ap (is_known ts) same ∙ fresh)) ∙ apart)
      ];
}

-- a new term put behind the others, with its hash or with its id apart, is found like them
pub hashed-more : (ts : List (List ℕ)) (t : List ℕ) (h k : Hashes) (m : IdsApart) (place : ℕ) → AreHashed ts h m
    → AddsHash h place k → IsPlaced m t (length ts) place → is_known ts t ≡ false
    → length ts < 2 ^ 32 - 1 → AreHashed (ts ++ t ∷ []) k m
hashed-more ts t h k m place a more new fresh room =
    let longer = length_push ts t in
    let many = a.count in
    record {
      differ = IsDistinct-push nat_list_eq_equiv ts t a.differ fresh;
      few = omega arith;
      count = more.count ∙ omega arith;
      found = λ id below.
          elim (cases_eq id (length ts)) [
            | inl same ↦
                let here : t ≡ get_or (ts ++ t ∷ []) id [] = sym (get_or_push ts t [] id (sym same)) in
                elim new [
                  | inl own ↦ inl (ap (λ i. get_or k.hashes i 0) (same ∙ sym many) ∙ more.last ∙ own ∙ ap hash_of here)
                  | inr apart ↦ inr (ap (id_apart m) (sym here) ∙ apart ∙ ap Some (sym same))
                ]
            | inr other ↦
                let lower : id < length ts = omega arith in
                let there = sym (get_or_append_left ts (t ∷ []) [] id lower) in
                elim (a.found id lower) [
                  | inl own ↦ inl (more.others id (omega arith) ∙ own ∙ ap hash_of there)
                  | inr apart ↦ inr (ap (id_apart m) (sym there) ∙ apart)
                ]
          ];
    }

-- ---- a term that is looked for

module _ (ts : List (List ℕ)) (t : List ℕ) (id : ℕ) (got : List ℕ) (below : id < length ts) (read : slice_get ts id ≡ Some got) where
  got-is : get_or ts id [] ≡ got
  got-is = same_Some (get_or ts id []) got (sym (slice_get-get_or ts id [] below) ∙ read)

  -- a test says that the term of an id is this one, or another
  pub this-term : bytes_eq got t ≡ true → get_or ts id [] ≡ t
  this-term e = got-is ∙ bytes_eq-true got t e

  -- a term that isn't equal to the one of an id is another
  pub other-term : bytes_eq got t ≡ false → get_or ts id [] ≢ t
  other-term e same = true≢false (sym (same_bytes got t (sym got-is ∙ same)) ∙ e)

-- the ids from a place on that are in their chains have other terms, and the one before it, if
-- any, is in the term's chain
pub record IsSought (ts : List (List ℕ)) (h : Hashes) (t : List ℕ) (at : ℕ) : Type 0 where
  pub within : at ≤ length ts
  pub of_chain : 0 < at → chain_at h (at - 1) ≡ chain_of (length h.hashes) (hash_of t)
  pub none_above : (id : ℕ) → at ≤ id → id < length ts → get_or h.hashes id 0 ≡ hash_of t → get_or ts id [] ≢ t

-- where the last id of the chain has another term or isn't there by its hash, the search goes on
-- with the id before it in the chain
pub sought-next : (ts : List (List ℕ)) (h : Hashes) (t : List ℕ) (at next : ℕ) → 0 < at → IsSought ts h t at
    → IsLast h (chain_at h (at - 1)) (at - 1) next
    → (get_or h.hashes (at - 1) 0 ≡ hash_of t → get_or ts (at - 1) [] ≢ t) → IsSought ts h t next
sought-next ts h t at next some s l other =
    let chain = s.of_chain some in
    record {
      within = let w = l.within in let v = s.within in omega arith;
      of_chain = λ left. l.of_chain left ∙ chain;
      none_above = λ id from below own same.
          elim (cases_order id (at - 1)) [
            | inl here ↦
                other (sym (ap (λ k. get_or h.hashes k 0) here) ∙ own) (ap (λ k. get_or ts k []) (sym here) ∙ same)
            | inr apart ↦ elim apart [
              | inl lower ↦ l.none_above id from lower (ap (chain_of (length h.hashes)) own ∙ sym chain)
              | inr higher ↦ s.none_above id (omega arith) below own same
            ]
          ];
    }

module _ (ts : List (List ℕ)) (h : Hashes) (t : List ℕ) (m : IdsApart) (a : AreHashed ts h m) where
  -- a search that has no id left, in the chain and apart, finds the term unknown
  pub sought-none : (at : ℕ) → at ≤ 0 → IsSought ts h t at
      → IsNotApart ts m t → known_id ts t ≡ None
  sought-none at over s none_apart =
      let other : (id : ℕ) → id < length ts → get_or ts id [] ≢ t = λ id below same.
      elim (a.found id below) [
        | inl own ↦ s.none_above id (omega arith) below (own ∙ ap hash_of same) same
        | inr apart ↦ none_apart id below (ap (id_apart m) (sym same) ∙ apart) same
      ] in
      let none : is_known ts t ≡ false = list_any_none (bytes_eq t) ts (λ k d below. false_from_ne_true
      (bytes_eq t (get_or ts k d)) (λ e. other k below
      (sym (bytes_eq-true t (get_or ts k d) e ∙ get_or_default ts k d [] below)))) in
      ap (λ b. cond b (Some (id_of ts t)) None) none

  -- a search that has met the term knows it by its id
  pub sought-found : (id : ℕ) → id < length ts → get_or ts id [] ≡ t → known_id ts t ≡ Some id
  sought-found id below e =
      let there : is_known ts t ≡ true = ap (is_known ts) (sym e) ∙ known_at ts id below in
      ap (λ b. cond b (Some (id_of ts t)) None) there ∙ ap Some (same_place ts id t a.differ below e)

  -- where the chain has no id left, what is found apart is what is known
  pub sought-apart : (at : ℕ) → at ≤ 0 → IsSought ts h t at → (r : Option ℕ)
      → IfSome r (λ id. slice_get ts id ≡ Some t) → IfNone r (IsNotApart ts m t) → r ≡ known_id ts t
  sought-apart at over s None found absent = sym (sought-none at over s absent)
  sought-apart at over s (Some id) found absent =
      let below : id < length ts = slice_get_within ts id t found in
      sym (sought-found id below (got-is ts t id t below found))
