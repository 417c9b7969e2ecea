-- The terms from a key on, and those up to one, by their ordinals.
use Rattle.std.proofs.Common.{◌≡◌, ℕ, ◌+◌, nat_lt, not, true, false, List, [], get_or, unwrap_or, slice_get, refl, sym, ap, ◌∙◌, inl, inr, arith}
use Rattle.std.specs.declared.cmp.Ordering.{Ordering}
use Rattle.std.specs.declared.cmp.Ordering.TheVariants.{Less, Equal, Greater}
use Rattle.std.specs.Ordering.{nat_cmp, is_lt, is_gt, ordering_reverse}
use Rattle.std.specs.Cmp.Lexicographic.{slice_cmp}
use Rattle.std.proofs.lemmas.Bool.{cases_lt, cases_order}
use Rattle.std.proofs.lemmas.Bool.Decides.{nat_tests}
use Rattle.std.proofs.lemmas.Cmp.{nat_list_cmp_total, tied_itself}
use Rattle.std.proofs.lemmas.Option.{unwrap_or-slice_get}
use Rattle.col_model.proofs.OrderingLaws.{less_where}
use Rattle.col_common.specs.Ascending.{is_before, is_ascending}
use Rattle.col_model.specs.Column.{term_cell}
use Rattle.col_model.specs.Lookup.{is_at_most}
use Rattle.col_model.specs.Table.{text}
use Rattle.col_terms.proofs.SearchLemmas.{pairwise, first_from-at, first_from-gap}
use Rattle.col_terms.specs.Lookups.{IsAt, IsGapFor, IsFirstFrom}
use Rattle.col_text.specs.Texts.{StartAt, EndAt}

-- a text is at most another exactly where the other isn't before it
at_most : (a b : List ℕ) → is_at_most (text a) (text b) ≡ not (is_before b a)
at_most a b = ap (λ o. not (is_gt o)) (nat_list_cmp_total.antisymm a b) ∙ turned (slice_cmp nat_cmp b a)
  where
    turned : (o : Ordering) → not (is_gt (ordering_reverse o)) ≡ not (is_lt o)
    turned Less = refl
    turned Equal = refl
    turned Greater = refl

-- of two texts not both are before the other
not_before : (a b : List ℕ) → is_before a b ≡ true → is_before b a ≡ false
not_before a b e = ap is_lt (nat_list_cmp_total.antisymm b a ∙ ap ordering_reverse (less_where _ e))

module _ (ts : List (List ℕ)) (key : List ℕ) where
  -- the term of an ordinal, as its cell has it
  term_is : (n : ℕ) → unwrap_or (slice_get ts n) [] ≡ get_or ts n []
  term_is n = unwrap_or-slice_get ts n []

  start-first : (i : ℕ) → IsFirstFrom ts key i → StartAt ts key i
  start-first i first n within = at_most key (unwrap_or (slice_get ts n) [])
      ∙ ap (λ t. not (is_before t key)) (term_is n) ∙ elim (cases_lt n i) [
        | inl before ↦ ap not (first.smaller_before n before) ∙ grind (arith, nat_tests)
        | inr behind ↦ ap not (first.none_smaller n behind within) ∙ grind (arith, nat_tests)
      ]

  -- where a key stands, the terms from it on begin at its place
  pub start-at : (i : ℕ) → is_ascending ts ≡ true → IsAt ts key i → StartAt ts key i
  start-at i up at = start-first i (first_from-at ts key i up at)

  -- where a key would go, the terms from it on begin
  pub start-gap : (i : ℕ) → IsGapFor ts key i → StartAt ts key i
  start-gap i gap = start-first i (first_from-gap ts key i gap)

  end-of : (n e : ℕ) → is_before key (get_or ts n []) ≡ not (nat_lt n e) → is_at_most (term_cell ts n) (text key) ≡ nat_lt n e
  end-of n e h =
      at_most (unwrap_or (slice_get ts n) []) key ∙ ap (λ t. not (is_before key t)) (term_is n) ∙ ap not h
      ∙ grind (arith, nat_tests)

  -- where a key would go, the terms up to it end
  pub end-gap : (i : ℕ) → IsGapFor ts key i → EndAt ts key i
  end-gap i gap n within = end-of n i (elim (cases_lt n i) [
    | inl before ↦ not_before (get_or ts n []) key (gap.smaller_before n before) ∙ grind (arith, nat_tests)
    | inr behind ↦ gap.greater_after n behind within ∙ grind (arith, nat_tests)
  ])

  -- where a key stands, the terms up to it end behind its place
  pub end-at : (i : ℕ) → is_ascending ts ≡ true → IsAt ts key i → EndAt ts key (i + 1)
  end-at i up at n within = end-of n (i + 1) (ap (λ t. is_before t (get_or ts n [])) (sym at.is_key) ∙ elim (cases_order n i) [
    | inl same ↦ ap (λ k. is_lt (slice_cmp nat_cmp (get_or ts i []) (get_or ts k []))) same
        ∙ ap is_lt (tied_itself nat_list_cmp_total (get_or ts i [])) ∙ grind (arith, nat_tests)
    | inr apart ↦ elim apart [
      | inl before ↦ not_before (get_or ts n []) (get_or ts i []) (ap is_lt (pairwise ts n i up before at.in_range))
          ∙ grind (arith, nat_tests)
      | inr behind ↦ ap is_lt (pairwise ts i n up behind within) ∙ grind (arith, nat_tests)
    ]
  ])
