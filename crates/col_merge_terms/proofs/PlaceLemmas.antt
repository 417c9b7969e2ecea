-- The terms of columns with their segments, in order, and the places of terms among all.
use Rattle.std.proofs.Common.{◌≡◌, ℕ, zero, suc, ◌+◌, ◌-◌, ◌≤◌, Bool, true, false, not, ◌||◌, List, [], ◌∷◌, ◌++◌, map, filter, drop, length, bytes_eq, sum_by, Some, slice_get, length-append, refl, sym, ap, ◌∙◌, subst, inl, inr, arith, IsPermutation}
use Rattle.std.specs.Prelude.{if◌then◌else◌}
use Rattle.std.specs.List.{AllByRecursion, list_any, enumerate_from}
use Rattle.std.specs.List.Sorted.{IsStrictlySortedBy}
use Rattle.std.specs.BTreeSet.{BTreeSet}
use Rattle.std.specs.declared.cmp.Ordering.{Ordering}
use Rattle.std.specs.declared.cmp.Ordering.TheVariants.{Less, Equal, Greater}
use Rattle.std.specs.Ordering.{is_lt, is_gt, is_eq, ordering_then, ordering_reverse, match_ordering}
use Rattle.std.proofs.lemmas.Bool.{true≢false}
use Rattle.std.proofs.lemmas.Cmp.{nat_list_cmp_total}
use Rattle.std.proofs.lemmas.List.{map-append}
use Rattle.std.proofs.lemmas.List.Sums.{sum_by-cons}
use Rattle.std.proofs.lemmas.List.Sorted.{IsPermutation-sym, list_any-IsPermutation, IsPermutation-map}
use Rattle.std.proofs.lemmas.Map.Lookups.{exact_bytes, btree_set_from_contains}
use Rattle.col_common.specs.Ascending.{is_before}
use Rattle.col_model.specs.Sorted.{with_item, distinct_items, inserted, sorted_items}
use Rattle.col_model.specs.U64List.{joined_lists}
use Rattle.col_model.proofs.DistinctLaws.{has, has-distinct, sorted-with_item}
use Rattle.col_model.proofs.OrderingLaws.{bytes_eq-true, bytes_eq-same}
use Rattle.col_model.proofs.RangeCodes.{all-distinct}
use Rattle.col_model.proofs.StatsLaws.{all_by, mapped_all, map-map}
use Rattle.col_model.proofs.ListLaws.{all-two, all-filter}
use Rattle.col_terms.specs.Building.{id_of}
use Rattle.col_terms.specs.Streams.{OrdTerm, numbered}
use Rattle.col_terms.proofs.WalkLemmas.{numbered-terms}
use Rattle.col_merge_terms.specs.Merging.{SegmentTerm, term_cmp, has_key, in_segment, in_order}
use Rattle.col_merge_texts.specs.Items.{item_at, IsAmong}
use Rattle.col_merge_terms.specs.Numbering.{terms_from, terms_in_order, keys_of, KeysNeverFall}
use Rattle.col_model.proofs.SortLaws.{all-inserted, moved-sorted}
use Rattle.col_merge_texts.proofs.AmongLemmas.{in-left, in-right, in-map}
use Rattle.col_merge_terms.proofs.KeyLemmas.{by_bytes, own-key, key-behind, key-further, key-tied}

abbrev term_key : SegmentTerm → List ℕ
term_key t = t.key

-- ---- numbered terms

numbered-at : (n : ℕ) (ts : List (List ℕ))
    → AllByRecursion (λ (p : OrdTerm). (n ≤ p.0) × (slice_get ts (p.0 - n) ≡ Some p.1)) (enumerate_from n ts)
numbered-at n [] = tt
numbered-at n (t ∷ ts) =
    let none : n - n ≡ 0 = omega arith in (
      (omega arith, ap (slice_get (t ∷ ts)) none),
      all_by (λ (p : OrdTerm) h. further p h) (enumerate_from (n + 1) ts) (numbered-at (n + 1) ts),
    )
  where
    further : (p : OrdTerm) → (n + 1 ≤ p.0) × (slice_get ts (p.0 - (n + 1)) ≡ Some p.1)
        → (n ≤ p.0) × (slice_get (t ∷ ts) (p.0 - n) ≡ Some p.1)
    further p h =
        let more : p.0 - n ≡ suc (p.0 - (n + 1)) = omega (arith, h.0) in
        (omega (arith, h.0), ap (slice_get (t ∷ ts)) more ∙ h.1)

in-numbered : (n : ℕ) (ts : List (List ℕ)) (j : ℕ) (key : List ℕ) → slice_get ts j ≡ Some key → IsAmong (n + j, key) (enumerate_from n ts)
in-numbered n [] j key e = cc
in-numbered n (t ∷ ts) zero key e = let same : t ≡ key = cc in inl (λ i. ((omega_zero n) i, sym same i))
  where
    omega_zero : (k : ℕ) → k + 0 ≡ k
    omega_zero k = omega arith
in-numbered n (t ∷ ts) (suc j) key e =
    let moved : n + 1 + j ≡ n + suc j = omega arith in
    inr (subst (λ k. IsAmong (k, key) (enumerate_from (n + 1) ts)) moved (in-numbered (n + 1) ts j key e))

-- ---- terms with their segments

abbrev IsOf : ℕ → List (List (List ℕ)) → SegmentTerm → Type 0
IsOf n tss t = (n ≤ t.segment) × (item_at tss (t.segment - n, t.ord) ≡ Some t.key)

here-of-segment : (n : ℕ) (ts : List (List ℕ)) (tss : List (List (List ℕ))) (p : OrdTerm)
    → (0 ≤ p.0) × (slice_get ts (p.0 - 0) ≡ Some p.1)
    → IsOf n (ts ∷ tss) (record { key = p.1; segment = n; ord = p.0 })
here-of-segment n ts tss p h =
    let none : n - n ≡ 0 = omega arith in
    let same : p.0 - 0 ≡ p.0 = omega arith in
    (omega arith, ap (λ i. item_at (ts ∷ tss) (i, p.0)) none ∙ ap (slice_get ts) (sym same) ∙ h.1)

later-of-segment : (n : ℕ) (ts : List (List ℕ)) (tss : List (List (List ℕ))) (t : SegmentTerm) → IsOf (n + 1) tss t → IsOf n (ts ∷ tss) t
later-of-segment n ts tss t h =
    let more : t.segment - n ≡ suc (t.segment - (n + 1)) = omega (arith, h.0) in
    (omega (arith, h.0), ap (λ i. item_at (ts ∷ tss) (i, t.ord)) more ∙ h.1)

-- each is a term of its segment
genuine-from : (n : ℕ) (tss : List (List (List ℕ))) → AllByRecursion (IsOf n tss) (terms_from n tss)
unfolding terms_from
genuine-from n [] = tt
genuine-from n (ts ∷ tss) =
    let whole = IsOf n (ts ∷ tss) in
    let own = mapped_all whole (λ (p : OrdTerm). record { key = p.1; segment = n; ord = p.0 }) (numbered ts)
    (all_by (here-of-segment n ts tss) (numbered ts) (numbered-at 0 ts)) in
    all-two whole (in_segment n (numbered ts)) (terms_from (n + 1) tss) own
    (all_by (later-of-segment n ts tss) (terms_from (n + 1) tss) (genuine-from (n + 1) tss))

-- each term of the columns stands in them at its segment and ordinal
pub genuine-all : (tss : List (List (List ℕ))) → AllByRecursion (λ t. item_at tss (t.segment, t.ord) ≡ Some t.key) (terms_from 0 tss)
genuine-all tss = all_by (λ (t : SegmentTerm) (h : IsOf 0 tss t). whole t h) (terms_from 0 tss) (genuine-from 0 tss)
  where
    whole : (t : SegmentTerm) → IsOf 0 tss t → item_at tss (t.segment, t.ord) ≡ Some t.key
    whole t h = let same : t.segment - 0 ≡ t.segment = omega arith in ap (λ i. item_at tss (i, t.ord)) (sym same) ∙ h.1

-- each term of a segment is there
in-terms : (n : ℕ) (tss : List (List (List ℕ))) (i j : ℕ) (key : List ℕ) → item_at tss (i, j) ≡ Some key
    → IsAmong (record { key = key; segment = n + i; ord = j }) (terms_from n tss)
unfolding terms_from
in-terms n [] i j key e = cc
in-terms n (ts ∷ tss) zero j key e =
    let none : n ≡ n + 0 = omega arith in
    let zero-less : 0 + j ≡ j = omega arith in
    let there = subst (λ k. IsAmong (k, key) (numbered ts)) zero-less (in-numbered 0 ts j key e) in
    let held = in-map (λ (p : OrdTerm). record { key = p.1; segment = n; ord = p.0 }) (j, key) (numbered ts) there in
    in-left _ (in_segment n (numbered ts)) (terms_from (n + 1) tss)
    (subst (λ k. IsAmong (record { key = key; segment = k; ord = j }) (in_segment n (numbered ts))) none held)
in-terms n (ts ∷ tss) (suc i) j key e =
    let moved : n + 1 + i ≡ n + suc i = omega arith in
    in-right _ (in_segment n (numbered ts)) (terms_from (n + 1) tss) (subst
    (λ k. IsAmong (record { key = key; segment = k; ord = j }) (terms_from (n + 1) tss)) moved
    (in-terms (n + 1) tss i j key e))

-- what stands in the columns at a place is among their terms, with this segment and ordinal
pub in-all-terms : (tss : List (List (List ℕ))) (i j : ℕ) (key : List ℕ) → item_at tss (i, j) ≡ Some key
    → IsAmong (record { key = key; segment = i; ord = j }) (terms_from 0 tss)
in-all-terms tss i j key e =
    let same : 0 + i ≡ i = omega arith in
    subst (λ k. IsAmong (record { key = key; segment = k; ord = j }) (terms_from 0 tss)) same (in-terms 0 tss i j key e)

pub keys-from : (n : ℕ) (tss : List (List (List ℕ))) → map term_key (terms_from n tss) ≡ joined_lists tss
unfolding terms_from
keys-from n [] = refl
keys-from n (ts ∷ tss) =
    map-append term_key (in_segment n (numbered ts)) (terms_from (n + 1) tss)
    ∙ ap (λ r. r ++ map term_key (terms_from (n + 1) tss)) (
    map-map (λ (p : OrdTerm). record { key = p.1; segment = n; ord = p.0 }) term_key (numbered ts)
    ∙ numbered-terms 0 ts)
    ∙ ap (λ r. ts ++ r) (keys-from (n + 1) tss)

-- ---- keys in order

rising-keys : (xs : List (List ℕ)) → IsStrictlySortedBy by_bytes (distinct_items by_bytes xs)
unfolding distinct_items IsStrictlySortedBy
rising-keys [] = tt
rising-keys (x ∷ xs) = sorted-with_item by_bytes nat_list_cmp_total x (distinct_items by_bytes xs) (rising-keys xs)

-- all terms in order, each once, strictly ascend
pub rising-terms : (tss : List (List (List ℕ))) → IsStrictlySortedBy by_bytes (terms_in_order tss)
rising-terms tss = rising-keys (joined_lists tss)

-- two lists in strict order with the same items are one
same-keys : (xs ys : List (List ℕ)) → IsStrictlySortedBy by_bytes xs → IsStrictlySortedBy by_bytes ys
    → ((q : List ℕ) → has by_bytes q xs ≡ has by_bytes q ys) → xs ≡ ys
same-keys xs ys s t h =
    let set_of : List (List ℕ) → BTreeSet (List ℕ) = λ zs. record { keys = zs } in
    btree_set_from_contains nat_list_cmp_total (set_of xs) (set_of ys) s t h exact_bytes

-- the distinct keys don't depend on how terms stand
pub keys-moved : (ts us : List SegmentTerm) → IsPermutation ts us → keys_of ts ≡ keys_of us
keys-moved ts us p =
    same-keys (keys_of ts) (keys_of us) (rising-keys (map term_key ts)) (rising-keys (map term_key us)) λ q.
    has-distinct by_bytes nat_list_cmp_total q (map term_key ts)
    ∙ list_any-IsPermutation (λ k. is_eq (by_bytes q k)) (map term_key ts) (map term_key us) (IsPermutation-map term_key ts us p)
    ∙ sym (has-distinct by_bytes nat_list_cmp_total q (map term_key us))

-- the keys of the columns' terms, put in order, are all terms in order, each once
pub keys-ordered : (tss : List (List (List ℕ))) → keys_of (in_order (terms_from 0 tss)) ≡ terms_in_order tss
keys-ordered tss =
    keys-moved (in_order (terms_from 0 tss)) (terms_from 0 tss)
    (IsPermutation-sym _ _ (moved-sorted (λ a b. not (is_gt (term_cmp a b))) (terms_from 0 tss)))
    ∙ ap (distinct_items by_bytes) (keys-from 0 tss)

-- ---- terms in order have keys in order

abbrev NotBefore : SegmentTerm → SegmentTerm → Type 0
NotBefore t u = is_before u.key t.key ≡ false

not-before-through : (t u v : SegmentTerm) → NotBefore t u → NotBefore u v → NotBefore t v
not-before-through t u v h k = go (by_bytes v.key t.key) refl
  where
    go : (r : Ordering) → by_bytes v.key t.key ≡ r → is_lt (by_bytes v.key t.key) ≡ false
    go Less e = absurd (true≢false (sym (ap is_lt (key-further v.key t.key u.key e h)) ∙ k))
    go Equal e = ap is_lt e
    go Greater e = ap is_lt e

abbrev at_most : SegmentTerm → SegmentTerm → Bool
at_most a b = not (is_gt (term_cmp a b))

then-greater : (a b : Ordering) → not (is_gt (ordering_then a b)) ≡ true → is_gt a ≡ false
then-greater Less b e = refl
then-greater Equal b e = refl
then-greater Greater b e = absurd (true≢false (sym e))

then-at_most : (a b : Ordering) → not (is_gt (ordering_then a b)) ≡ false → is_lt a ≡ false
then-at_most Less b e = absurd (true≢false e)
then-at_most Equal b e = refl
then-at_most Greater b e = refl

reversed : (r : Ordering) → is_gt r ≡ false → is_lt (ordering_reverse r) ≡ false
reversed Less e = refl
reversed Equal e = refl
reversed Greater e = absurd (true≢false e)

at_most-key : (t u : SegmentTerm) → at_most t u ≡ true → NotBefore t u
at_most-key t u e =
    ap is_lt (nat_list_cmp_total.antisymm u.key t.key)
    ∙ reversed (by_bytes t.key u.key) (then-greater (by_bytes t.key u.key) _ e)

above-key : (t u : SegmentTerm) → at_most t u ≡ false → NotBefore u t
above-key t u e = then-at_most (by_bytes t.key u.key) _ e

never_fall-inserted : (t : SegmentTerm) (us : List SegmentTerm) → KeysNeverFall us → KeysNeverFall (inserted at_most t us)
never_fall-inserted t [] h = (tt, tt)
never_fall-inserted t (u ∷ us) h = go (at_most t u) refl (never_fall-inserted t us h.1)
  where
    go : (b : Bool) → at_most t u ≡ b → KeysNeverFall (inserted at_most t us)
        → KeysNeverFall (if b then t ∷ u ∷ us else u ∷ inserted at_most t us)
    go true e rest = let first = at_most-key t u e in ((first, all_by (λ v k. not-before-through t u v first k) us h.0), h)
    go false e rest = (all-inserted at_most (NotBefore u) t us (above-key t u e) h.0, rest)

-- the keys of terms in order never fall
pub never_fall-ordered : (ts : List SegmentTerm) → KeysNeverFall (in_order ts)
unfolding sorted_items
never_fall-ordered [] = tt
never_fall-ordered (t ∷ ts) = never_fall-inserted t (in_order ts) (never_fall-ordered ts)

-- the keys of terms that never fall don't fall among those that pass a test
pub never_fall-filtered : (p : SegmentTerm → Bool) (ts : List SegmentTerm) → KeysNeverFall ts → KeysNeverFall (filter p ts)
never_fall-filtered p [] h = tt
never_fall-filtered p (t ∷ ts) h = go (p t) refl (never_fall-filtered p ts h.1)
  where
    go : (b : Bool) → p t ≡ b → KeysNeverFall (filter p ts) → KeysNeverFall (filter p (t ∷ ts))
    go true e rest = rw e (all-filter (NotBefore t) p ts h.0, rest)
    go false e rest = rw e rest

-- ---- the first key, and the others

or-same : (b c d : Bool) → (b || c) ≡ (b || d) → (b || (b || c)) ≡ (b || d)
or-same true c d e = refl
or-same false c d e = e

or-other : (b x c d : Bool) → (b || c) ≡ (b || d) → (b || (x || c)) ≡ (b || (x || d))
or-other true x c d e = refl
or-other false x c d e = ap (λ r. x || r) e

-- the term is another than the key
abbrev pub is_other : List ℕ → SegmentTerm → Bool
is_other key u = not (has_key key u)

any-other : (p : List ℕ → Bool) (key : List ℕ) (us : List SegmentTerm)
    → (p key || list_any p (map term_key us)) ≡ (p key || list_any p (map term_key (filter (is_other key) us)))
any-other p key [] = refl
any-other p key (u ∷ us) = go (bytes_eq key u.key) refl (any-other p key us)
  where
    go : (b : Bool) → bytes_eq key u.key ≡ b
        → (p key || list_any p (map term_key us)) ≡ (p key || list_any p (map term_key (filter (is_other key) us)))
        → (p key || (p u.key || list_any p (map term_key us))) ≡ (p key || list_any p (map term_key (filter (is_other key) (u ∷ us))))
    go true e rest =
        let same : u.key ≡ key = sym (bytes_eq-true key u.key e) in
        rw (e, same) (or-same (p key) (list_any p (map term_key us)) (list_any p (map term_key (filter (is_other key) us))) rest)
    go false e rest =
        rw e (or-other (p key) (p u.key) (list_any p (map term_key us))
        (list_any p (map term_key (filter (is_other key) us))) rest)

others-after : (t : SegmentTerm) (us : List SegmentTerm) → AllByRecursion (NotBefore t) us
    → AllByRecursion (λ u. by_bytes t.key u.key ≡ Less) (filter (is_other t.key) us)
others-after t [] h = tt
others-after t (u ∷ us) h = go (bytes_eq t.key u.key) refl (others-after t us h.1)
  where
    turned : bytes_eq t.key u.key ≡ false → bytes_eq u.key t.key ≡ false
    turned e = turn (bytes_eq u.key t.key) refl
      where
        turn : (b : Bool) → bytes_eq u.key t.key ≡ b → b ≡ false
        turn true f = absurd (true≢false (sym (own-key t.key u.key (bytes_eq-true u.key t.key f)) ∙ e))
        turn false f = refl

    go : (b : Bool) → bytes_eq t.key u.key ≡ b
        → AllByRecursion (λ v. by_bytes t.key v.key ≡ Less) (filter (is_other t.key) us)
        → AllByRecursion (λ v. by_bytes t.key v.key ≡ Less) (filter (is_other t.key) (u ∷ us))
    go true e rest = rw e rest
    go false e rest = rw e (key-behind t.key u.key h.0 (turned e), rest)

-- the terms with other keys than the first one's are among those behind it
pub others-first : (t : SegmentTerm) (us : List SegmentTerm) → filter (is_other t.key) (t ∷ us) ≡ filter (is_other t.key) us
others-first t us = rw (bytes_eq-same t.key) refl

-- the keys of terms in order: the first one, and those of the terms that differ
pub keys-step : (t : SegmentTerm) (us : List SegmentTerm) → KeysNeverFall (t ∷ us)
    → keys_of (t ∷ us) ≡ t.key ∷ keys_of (filter (is_other t.key) (t ∷ us))
unfolding IsStrictlySortedBy
keys-step t us h =
    let rest = filter (is_other t.key) us in
    let after : AllByRecursion (λ k. by_bytes t.key k ≡ Less) (map term_key rest) =
    mapped_all (λ k. by_bytes t.key k ≡ Less) term_key rest (others-after t us h.0) in
    let step : keys_of (t ∷ us) ≡ t.key ∷ keys_of rest =
    same-keys (keys_of (t ∷ us)) (t.key ∷ keys_of rest) (rising-keys (map term_key (t ∷ us)))
    (all-distinct (λ k. by_bytes t.key k ≡ Less) by_bytes (map term_key rest) after, rising-keys (map term_key rest)) (λ q.
    has-distinct by_bytes nat_list_cmp_total q (map term_key (t ∷ us))
    ∙ any-other (λ k. is_eq (by_bytes q k)) t.key us
    ∙ ap (λ b. is_eq (by_bytes q t.key) || b) (sym (has-distinct by_bytes nat_list_cmp_total q (map term_key rest)))) in
    step ∙ ap (λ us. t.key ∷ keys_of us) (sym (others-first t us))

-- ---- places among keys in strict order

-- keys that strictly ascend do so among those that pass a test
pub rising-filtered : (p : List ℕ → Bool) (ks : List (List ℕ)) → IsStrictlySortedBy by_bytes ks → IsStrictlySortedBy by_bytes (filter p ks)
unfolding IsStrictlySortedBy
rising-filtered p [] h = tt
rising-filtered p (k ∷ ks) h = go (p k) refl (rising-filtered p ks h.1)
  where
    go : (b : Bool) → p k ≡ b → IsStrictlySortedBy by_bytes (filter p ks) → IsStrictlySortedBy by_bytes (filter p (k ∷ ks))
    go true e rest = rw e (all-filter (λ j. by_bytes k j ≡ Less) p ks h.0, rest)
    go false e rest = rw e rest

no-items : {X : Type 0} (y : X) (ys : List X) → [] ≡ y ∷ ys → ⊥
no-items y ys e = cc

dropped-first : (P : List ℕ → Type 0) (n : ℕ) (ks : List (List ℕ)) (key : List ℕ) (rest : List (List ℕ))
    → drop n ks ≡ key ∷ rest → AllByRecursion P ks → P key
dropped-first P zero [] key rest e h = absurd (no-items key rest e)
dropped-first P (suc n) [] key rest e h = absurd (no-items key rest e)
dropped-first P zero (k ∷ ks) key rest e h = let same : k ≡ key = cc in subst P same h.0
dropped-first P (suc n) (k ∷ ks) key rest e h = dropped-first P n ks key rest e h.1

-- the place of a key is how many stand before it
pub place-dropped : (n : ℕ) (ks : List (List ℕ)) (key : List ℕ) (rest : List (List ℕ))
    → IsStrictlySortedBy by_bytes ks → drop n ks ≡ key ∷ rest → id_of ks key ≡ n
unfolding IsStrictlySortedBy
place-dropped zero [] key rest up e = absurd (no-items key rest e)
place-dropped (suc n) [] key rest up e = absurd (no-items key rest e)
place-dropped zero (k ∷ ks) key rest up e =
    let same : bytes_eq key k ≡ true = own-key key k cc in
    rw same refl
place-dropped (suc n) (k ∷ ks) key rest up e =
    let before : by_bytes k key ≡ Less = dropped-first (λ j. by_bytes k j ≡ Less) n ks key rest e up.0 in
    let apart : bytes_eq key k ≡ false = not-key key k before in
    let more : id_of ks key ≡ n = place-dropped n ks key rest up.1 e in
    rw (apart, more) (omega arith)
  where
    not-key : (a b : List ℕ) → by_bytes b a ≡ Less → bytes_eq a b ≡ false
    not-key a b h = turn (bytes_eq a b) refl
      where
        turn : (t : Bool) → bytes_eq a b ≡ t → t ≡ false
        turn true f = absurd (true≢false (sym (ap is_lt h) ∙ ap is_lt (ap (by_bytes b) (bytes_eq-true a b f) ∙ key-tied b)))
        turn false f = refl

-- what stands behind a place is what stands from it on, without the first item
pub drop-next : {X : Type 0} (n : ℕ) (xs : List X) (y : X) (ys : List X) → drop n xs ≡ y ∷ ys → drop (n + 1) xs ≡ ys
drop-next zero [] y ys e = absurd (no-items y ys e)
drop-next (suc n) [] y ys e = absurd (no-items y ys e)
drop-next zero (x ∷ xs) y ys e = cc
drop-next (suc n) (x ∷ xs) y ys e =
    let more : suc n + 1 ≡ suc (n + 1) = omega arith in
    rw more (drop-next n xs y ys e)

-- ---- counts

-- joined lists are as long as they are together
pub length-joined : {X : Type 0} (xss : List (List X)) → length (joined_lists xss) ≡ sum_by length xss
length-joined [] = refl
length-joined (xs ∷ xss) = omega (arith, length-append xs (joined_lists xss), length-joined xss, sum_by-cons length xs xss)

length-with_item : (x : List ℕ) (ks : List (List ℕ)) → length (with_item by_bytes x ks) ≤ length ks + 1
length-with_item x [] = omega arith
length-with_item x (k ∷ ks) = go (by_bytes x k) (length-with_item x ks)
  where
    go : (r : Ordering) → length (with_item by_bytes x ks) ≤ length ks + 1
        → length (match_ordering r (x ∷ k ∷ ks) (k ∷ ks) (k ∷ with_item by_bytes x ks)) ≤ length (k ∷ ks) + 1
    go Less h = omega arith
    go Equal h = omega arith
    go Greater h = omega arith

-- there are at most as many distinct items as items
pub length-distinct : (xs : List (List ℕ)) → length (distinct_items by_bytes xs) ≤ length xs
unfolding distinct_items
length-distinct [] = omega arith
length-distinct (x ∷ xs) = omega (arith, length-distinct xs, length-with_item x (distinct_items by_bytes xs))
