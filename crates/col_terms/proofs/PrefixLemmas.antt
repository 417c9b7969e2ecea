-- Terms with a prefix, among ascending terms.
use Rattle.std.proofs.Common.{◌≡◌, ℕ, ◌+◌, ◌-◌, ◌<◌, ◌≤◌, ◌==◌, Bool, true, false, List, [], ◌∷◌, length, get_or, slice_get, take, drop, Some, refl, sym, ap, ◌∙◌, subst, inl, inr, arith}
use Rattle.std.specs.declared.cmp.Ordering.{Ordering}
use Rattle.std.specs.declared.cmp.Ordering.TheVariants.{Less, Equal, Greater}
use Rattle.std.specs.Ordering.{nat_cmp, is_lt, ordering_then}
use Rattle.std.specs.Cmp.Lexicographic.{slice_cmp}
use Rattle.std.proofs.lemmas.Bool.{and_parts, and_from, and_left, and_right, false≢true, true≢false, eqb-true, eq-eqb, ne_eqb, cases_lt, cases_order, false_from_ne_true}
use Rattle.std.proofs.lemmas.List.FromFn.{length-enumerate_from, get_or-enumerate_from}
use Rattle.std.proofs.lemmas.Option.{get_or_from_slice_get}
use Rattle.col_common.specs.Ascending.{is_before, is_ascending}
use Rattle.col_terms.specs.Lookups.{IsFirstFrom, has_prefix, IsPrefixEnd}
use Rattle.col_terms.specs.Streams.{OrdTerm, numbered, with_prefix}
use Rattle.col_terms.proofs.HeadLemmas.{cmp_same}
use Rattle.col_terms.proofs.SearchLemmas.{middle, pairwise}
use Rattle.col_model.proofs.ListLaws.{filter_run}
use Rattle.col_model.proofs.OrderingLaws.{nat_cmp-less, nat_cmp-greater}

-- ---- prefixes and the order

-- the first bytes decide
decided : (x y : ℕ) (o p : Ordering) → nat_cmp x y ≡ o → is_lt (ordering_then (nat_cmp x y) p) ≡ is_lt (ordering_then o p)
decided x y o p e = ap (λ q. is_lt (ordering_then q p)) e

-- a term before its prefix doesn't have it
smaller_lacks : (p t : List ℕ) → is_before t p ≡ true → has_prefix p t ≡ false
smaller_lacks [] [] h = absurd (false≢true h)
smaller_lacks [] (y ∷ t) h = absurd (false≢true h)
smaller_lacks (x ∷ p) [] h = refl
smaller_lacks (x ∷ p) (y ∷ t) h =
    elim (cases_order y x) [
      | inl same ↦ and_right (x == y) (has_prefix p t)
          (smaller_lacks p t (sym (decided y x Equal (slice_cmp nat_cmp t p) (cmp_same y x same)) ∙ h))
      | inr apart ↦ and_left (x == y) (has_prefix p t) (ne_eqb x y (λ e. elim apart [ inl below ↦ omega arith | inr above ↦ omega arith ]))
    ]

-- between a prefix and a term that has it, all terms have it
between_has : (p t u : List ℕ) → is_before t p ≡ false → is_before t u ≡ true → has_prefix p u ≡ true → has_prefix p t ≡ true
between_has [] t u a b h = refl
between_has (x ∷ p) [] u a b h = absurd (true≢false a)
between_has (x ∷ p) (y ∷ t) [] a b h = absurd (false≢true h)
between_has (x ∷ p) (y ∷ t) (z ∷ u) a b h =
    let parts = and_parts (x == z) (has_prefix p u) h in
    let same_end : x ≡ z = eqb-true x z parts.0 in
    elim (cases_order y x) [
      | inl same ↦
          let lower : is_before t p ≡ false = sym (decided y x Equal (slice_cmp nat_cmp t p) (cmp_same y x same)) ∙ a in
          let upper : is_before t u ≡ true = sym (decided y z Equal (slice_cmp nat_cmp t u) (cmp_same y z (same ∙ same_end))) ∙ b in
          and_from (x == y) (has_prefix p t) (eq-eqb x y (sym same)) (between_has p t u lower upper parts.1)
      | inr apart ↦ elim apart [
        | inl below ↦ absurd (true≢false (sym (decided y x Less (slice_cmp nat_cmp t p) (nat_cmp-less y x below)) ∙ a))
        | inr above ↦ absurd (false≢true (sym (decided y z Greater (slice_cmp nat_cmp t u) (nat_cmp-greater y z (omega arith))) ∙ b))
      ]
    ]

-- ---- a search for the end

-- from the start up to one place terms have the prefix, and from another on none has it
pub record IsEnding (ts : List (List ℕ)) (prefix : List ℕ) (start low high : ℕ) : Type 0 where
  pub begun : start ≤ low
  pub ordered : low ≤ high
  pub within : high ≤ length ts
  pub have : (j : ℕ) → start ≤ j → j < low → has_prefix prefix (get_or ts j []) ≡ true
  pub have_not : (j : ℕ) → high ≤ j → j < length ts → has_prefix prefix (get_or ts j []) ≡ false

module _ (ts : List (List ℕ)) (prefix : List ℕ) (start : ℕ) (f : IsFirstFrom ts prefix start) where
  -- a turn: the term in the middle is tried
  module _ (low high : ℕ) (term : List ℕ) (e : is_ascending ts ≡ true) (s : IsEnding ts prefix start low high)
      (more : low < high) (read : slice_get ts (middle low high) ≡ Some term) where
    at : get_or ts (middle low high) [] ≡ term
    at = get_or_from_slice_get ts (middle low high) term [] read

    before : (i j : ℕ) → i < j → j < length ts → is_before (get_or ts i []) (get_or ts j []) ≡ true
    before i j h k = ap is_lt (pairwise ts i j e h k)

    -- where the middle term has the prefix, the search for the end goes on behind it
    pub ending-has : has_prefix prefix term ≡ true → IsEnding ts prefix start (middle low high + 1) high
    ending-has has =
        let m = middle low high in
        let here : has_prefix prefix (get_or ts m []) ≡ true = ap (has_prefix prefix) at ∙ has in
        record {
          begun = omega (arith, s.begun);
          ordered = omega arith;
          within = s.within;
          have = λ j h k. elim (cases_lt j m) [
            | inl below ↦ between_has prefix (get_or ts j []) (get_or ts m [])
                (f.none_smaller j h (omega (arith, s.within))) (before j m below (omega (arith, s.within))) here
            | inr above ↦ let same : m ≡ j = omega arith in subst (λ i. has_prefix prefix (get_or ts i []) ≡ true) same here
          ];
          have_not = s.have_not;
        }

    -- where the middle term hasn't the prefix, the search for the end goes on before it
    pub ending-lacks : has_prefix prefix term ≡ false → IsEnding ts prefix start low (middle low high)
    ending-lacks lacks =
        let m = middle low high in
        let here : has_prefix prefix (get_or ts m []) ≡ false = ap (has_prefix prefix) at ∙ lacks in
        record {
          begun = s.begun;
          ordered = omega arith;
          within = omega (arith, s.within);
          have = s.have;
          have_not = λ j h k. elim (cases_lt m j) [
            | inl above ↦ false_from_ne_true (has_prefix prefix (get_or ts j []))
                (λ has. true≢false (sym (between_has prefix (get_or ts m []) (get_or ts j [])
                (f.none_smaller m (omega (arith, s.begun)) (omega (arith, s.within))) (before m j above k) has)
                ∙ here))
            | inr below ↦ let same : m ≡ j = omega arith in subst (λ i. has_prefix prefix (get_or ts i []) ≡ false) same here
          ];
        }

-- ---- the terms between both places

-- the terms with the prefix stand between both places
pub with_prefix-between : (ts : List (List ℕ)) (prefix : List ℕ) (start upto : ℕ) → IsFirstFrom ts prefix start
    → IsPrefixEnd ts prefix start upto → take (upto - start) (drop start (numbered ts)) ≡ with_prefix prefix ts
with_prefix-between ts prefix start upto f e =
    let long = length-enumerate_from 0 ts in
    let read : (j : ℕ) (b : Bool) → j < length ts → has_prefix prefix (get_or ts j []) ≡ b → has_prefix prefix
    (get_or (numbered ts) j (0, [])).1 ≡ b = λ j b h k.
    ap (λ (q : OrdTerm). has_prefix prefix q.1) (get_or-enumerate_from 0 ts j (0, []) h) ∙ k in
    sym (filter_run (λ (q : OrdTerm). has_prefix prefix q.1) (0, []) (numbered ts) start upto e.ordered (omega (arith, e.in_range))
    (λ j h. read j false (omega (arith, f.in_range)) (smaller_lacks prefix (get_or ts j []) (f.smaller_before j h)))
    (λ j h k. read j true (omega (arith, e.in_range)) (e.have j h k))
    (λ j h k. let within : j < length ts = omega arith in read j false within (e.have_not j h within)))
