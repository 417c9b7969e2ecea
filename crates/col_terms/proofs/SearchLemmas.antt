-- Searches among ascending terms.
use Rattle.std.proofs.Common.{◌≡◌, ℕ, zero, suc, ◌+◌, ◌-◌, ◌/◌, ◌<◌, ◌≤◌, true, false, List, [], ◌∷◌, length, get_or, slice_get, Some, None, bytes_eq, refl, sym, ap, ◌∙◌, subst, inl, inr, add-one, arith}
use Rattle.std.specs.declared.cmp.Ordering.{Ordering}
use Rattle.std.specs.declared.cmp.Ordering.TheVariants.{Less, Equal, Greater}
use Rattle.std.specs.Ordering.{nat_cmp, is_lt, is_eq, ordering_reverse}
use Rattle.std.specs.Cmp.Lexicographic.{slice_cmp}
use Rattle.std.specs.List.Sorted.{IsStrictlySortedBy}
use Rattle.std.proofs.lemmas.Bool.{and_parts, lt-ltb, le-ltb, cases_lt}
use Rattle.std.proofs.lemmas.Cmp.{nat_list_cmp_total, tied_itself}
use Rattle.std.proofs.lemmas.Map.Keys.{sorted_from_all_adjacent, Less-from_sorted}
use Rattle.std.proofs.lemmas.Map.Lookups.{exact_bytes}
use Rattle.std.proofs.lemmas.Map.Text.{is_eq-slice_cmp}
use Rattle.std.proofs.lemmas.List.Sums.{position_or_len_is}
use Rattle.std.proofs.lemmas.Option.{get_or_from_slice_get}
use Rattle.col_common.specs.Ascending.{is_before, is_ascending}
use Rattle.col_terms.proofs.PlaceLemmas.{same_bytes}
use Rattle.col_terms.specs.Lookups.{ord_of, IsAt, IsGapFor, IsFirstFrom}
use Rattle.col_model.proofs.OrderingLaws.{less_where}

-- ---- the order of byte lists

turned : (a b : List ℕ) → slice_cmp nat_cmp a b ≡ Greater → slice_cmp nat_cmp b a ≡ Less
turned a b e = nat_list_cmp_total.antisymm b a ∙ ap ordering_reverse e

not_before_itself : (a : List ℕ) → is_before a a ≡ false
not_before_itself a = ap is_lt (tied_itself nat_list_cmp_total a)

not_before_less : (a b : List ℕ) → slice_cmp nat_cmp a b ≡ Less → is_before b a ≡ false
not_before_less a b e = ap is_lt (nat_list_cmp_total.antisymm b a ∙ ap ordering_reverse e)

unlike : (a b : List ℕ) (o : Ordering) → slice_cmp nat_cmp a b ≡ o → is_eq o ≡ false → bytes_eq a b ≡ false
unlike a b o h n = sym (is_eq-slice_cmp a b) ∙ ap is_eq h ∙ n

adjacent : (ts : List (List ℕ)) (k : ℕ) → suc k < length ts → is_ascending ts ≡ true
    → slice_cmp nat_cmp (get_or ts k []) (get_or ts (suc k) []) ≡ Less
adjacent [] k h e = absurd (omega arith)
adjacent (x ∷ []) k h e = absurd (omega arith)
adjacent (x ∷ y ∷ ts) zero h e = less_where _ (and_parts (is_before x y) _ e).0
adjacent (x ∷ y ∷ ts) (suc k) h e = adjacent (y ∷ ts) k (omega arith) (and_parts (is_before x y) _ e).1

-- the test of neighbours orders all terms
pub in_order : (ts : List (List ℕ)) → is_ascending ts ≡ true → IsStrictlySortedBy (slice_cmp nat_cmp) ts
in_order ts e =
    sorted_from_all_adjacent nat_list_cmp_total ts []
    (λ k h. let h2 : suc k < length ts = omega arith in rw add-one (adjacent ts k h2 e))

-- an earlier term is smaller
pub pairwise : (ts : List (List ℕ)) (i j : ℕ) → is_ascending ts ≡ true → i < j → j < length ts
    → slice_cmp nat_cmp (get_or ts i []) (get_or ts j []) ≡ Less
pairwise ts i j e h k = Less-from_sorted (slice_cmp nat_cmp) ts i j [] (in_order ts e) h k

-- ---- a search for a key

-- smaller terms stand before one place, and greater ones from another on
pub record IsNarrowed (ts : List (List ℕ)) (key : List ℕ) (low high : ℕ) : Type 0 where
  pub ordered : low ≤ high
  pub within : high ≤ length ts
  pub below : (j : ℕ) → j < low → slice_cmp nat_cmp (get_or ts j []) key ≡ Less
  pub above : (j : ℕ) → high ≤ j → j < length ts → slice_cmp nat_cmp key (get_or ts j []) ≡ Less

-- half way between two places
abbrev pub middle : ℕ → ℕ → ℕ
middle low high = low + (high - low) / 2

module _ (ts : List (List ℕ)) (key : List ℕ) where
  -- a turn: the term in the middle is compared
  module _ (low high : ℕ) (term : List ℕ) (e : is_ascending ts ≡ true) (s : IsNarrowed ts key low high)
      (more : low < high) (read : slice_get ts (middle low high) ≡ Some term) where
    at : get_or ts (middle low high) [] ≡ term
    at = get_or_from_slice_get ts (middle low high) term [] read

    -- where the middle term is below the key, the search goes on behind it
    pub narrowed-less : slice_cmp nat_cmp term key ≡ Less → IsNarrowed ts key (middle low high + 1) high
    narrowed-less less =
        let m = middle low high in
        let here : slice_cmp nat_cmp (get_or ts m []) key ≡ Less = ap (λ t. slice_cmp nat_cmp t key) at ∙ less in
        record {
          ordered = omega arith;
          within = s.within;
          below = λ j h. elim (cases_lt j m) [
            | inl before ↦ nat_list_cmp_total.trans (get_or ts j []) (get_or ts m []) key
                (pairwise ts j m e before (omega (arith, s.within))) here
            | inr behind ↦ let same : m ≡ j = omega arith in subst (λ k. slice_cmp nat_cmp (get_or ts k []) key ≡ Less) same here
          ];
          above = s.above;
        }

    -- where the middle term is above the key, the search goes on before it
    pub narrowed-greater : slice_cmp nat_cmp term key ≡ Greater → IsNarrowed ts key low (middle low high)
    narrowed-greater greater =
        let m = middle low high in
        let here : slice_cmp nat_cmp key (get_or ts m []) ≡ Less = ap (slice_cmp nat_cmp key) at ∙ turned term key greater in
        record {
          ordered = omega arith;
          within = omega (arith, s.within);
          below = s.below;
          above = λ j h k. elim (cases_lt m j) [
            | inl behind ↦ nat_list_cmp_total.trans key (get_or ts m []) (get_or ts j []) here (pairwise ts m j e behind k)
            | inr before ↦ let same : m ≡ j = omega arith in subst (λ k. slice_cmp nat_cmp key (get_or ts k []) ≡ Less) same here
          ];
        }

    -- where the middle term is equal to the key, the key is there
    pub narrowed-equal : slice_cmp nat_cmp term key ≡ Equal → IsAt ts key (middle low high)
    narrowed-equal equal = record { in_range = omega (arith, s.within); is_key = at ∙ exact_bytes term key equal }

  -- ---- what a search finds

  -- the ordinal of a key that stands at a place is that place
  pub ord_of-at : (i : ℕ) → is_ascending ts ≡ true → IsAt ts key i → ord_of ts key ≡ Some i
  ord_of-at i e at =
      let first = position_or_len_is (λ t. bytes_eq t key) ts i [] (omega (arith, at.in_range))
      (λ k h. unlike (get_or ts k []) key Less
      (ap (slice_cmp nat_cmp (get_or ts k [])) (sym at.is_key) ∙ pairwise ts k i e h at.in_range) refl)
      (λ h. same_bytes (get_or ts i []) key at.is_key) in
      rw (first, lt-ltb i (length ts) at.in_range) refl

  -- a key that would go between terms has no ordinal
  pub ord_of-gap : (i : ℕ) → IsGapFor ts key i → ord_of ts key ≡ None
  ord_of-gap i gap =
      let none = position_or_len_is (λ t. bytes_eq t key) ts (length ts) [] (omega arith)
      (λ k h. elim (cases_lt k i) [
        | inl before ↦ unlike (get_or ts k []) key Less (less_where _ (gap.smaller_before k before)) refl
        | inr behind ↦ unlike (get_or ts k []) key Greater (nat_list_cmp_total.antisymm (get_or ts k []) key
            ∙ ap ordering_reverse (less_where _ (gap.greater_after k behind h))) refl
      ])
      (λ h. absurd (omega arith)) in
      rw (none, le-ltb (length ts) (length ts) (omega arith)) refl

  -- where a key stands, its own place is the first that isn't below it
  pub first_from-at : (i : ℕ) → is_ascending ts ≡ true → IsAt ts key i → IsFirstFrom ts key i
  first_from-at i e at = record {
    in_range = omega (arith, at.in_range);
    smaller_before = λ j h. ap is_lt (ap (slice_cmp nat_cmp (get_or ts j [])) (sym at.is_key) ∙ pairwise ts j i e h at.in_range);
    none_smaller = λ j h k. elim (cases_lt i j) [
      | inl behind ↦ not_before_less key (get_or ts j []) (ap (λ t. slice_cmp nat_cmp t (get_or ts j []))
          (sym at.is_key) ∙ pairwise ts i j e behind k)
      | inr before ↦ let same : i ≡ j = omega arith in subst (λ m. is_before (get_or ts m []) key ≡ false) same
          (ap (λ t. is_before t key) at.is_key ∙ not_before_itself key)
    ];
  }

  -- where a key would go is the first place that isn't below it
  pub first_from-gap : (i : ℕ) → IsGapFor ts key i → IsFirstFrom ts key i
  first_from-gap i gap = record {
    in_range = gap.in_range;
    smaller_before = gap.smaller_before;
    none_smaller = λ j h k. not_before_less key (get_or ts j []) (less_where _ (gap.greater_after j h k));
  }
