-- Steps of a merge.
use Rattle.std.proofs.Common.{slice_index_or, ◌≡◌, ℕ, ◌+◌, ◌<◌, Bool, true, false, not, List, [], ◌∷◌, ◌++◌, map, filter, length, is_some, append_assoc, append-nil, length-append, refl, sym, ap, ◌∙◌, subst, arith, IsPermutation, Option, Some, None}
use Rattle.std.specs.Prelude.{◌==◌}
use Rattle.std.specs.List.{AllByRecursion}
use Rattle.std.specs.Option.{option_map_or}
use Rattle.std.specs.declared.cmp.Ordering.TheVariants.{Less}
use Rattle.std.specs.Ordering.{is_gt}
use Rattle.std.proofs.lemmas.Bool.{true≢false, ne_eqb}
use Rattle.std.proofs.lemmas.Cmp.{nat_list_cmp_total}
use Rattle.std.proofs.lemmas.List.Elements.{filter-append}
use Rattle.std.proofs.lemmas.List.Concat.{flat_map-append}
use Rattle.std.proofs.lemmas.List.Sorted.{IsPermutation-append_left, length_permutation, IsPermutation-sym, IsPermutation-map}
use Rattle.col_common.specs.Ascending.{is_before, is_never_falling}
use Rattle.col_model.specs.Sorted.{sorted_items}
use Rattle.col_model.proofs.OrderingLaws.{less_where}
use Rattle.col_model.proofs.StatsLaws.{all_by, mapped_all, all_both}
use Rattle.col_model.proofs.ListLaws.{all-two}
use Rattle.col_terms.specs.Streams.{OrdTerm}
use Rattle.col_merge_terms.specs.declared.terms_with_segment_ord.TermsWithSegmentOrd.{TermsWithSegmentOrd}
use Rattle.col_merge_terms.specs.Keys.{key_at, here_of, from_here}
use Rattle.col_merge_terms.specs.Places.{AllStand, places_at}
use Rattle.col_merge_terms.specs.Merging.{SegmentTerm, term_cmp, in_segment, in_order, has_key, terms_left, terms_here, terms_ahead, merged_step, key_of, places_of, is_on_key, TermsAscend, LeftAscends}
use Rattle.col_merge_terms.specs.Moves.{StandsAscending, AreReady, AreTaken, AreLater, StandTogether, StandIf, IsLeast, first_key, walk_segments, merging_by}
use Rattle.col_model.proofs.PermutationLaws.{all-moved, all-parts, all-flat}
use Rattle.col_model.proofs.SortLaws.{sorted-moved, sorted-joined, moved-sorted, all-sorted}
use Rattle.col_merge_terms.proofs.KeyLemmas.{term_cmp-total, term_cmp-apart, by_bytes, before-term, other-key, own-key}
use Rattle.col_merge_terms.proofs.StreamLemmas.{left-behind, ahead-split}
use Rattle.col_merge_terms.proofs.StepLemmas.{ahead-moved, top-key}

-- the term has the key
abbrev Has : List ℕ → SegmentTerm → Type 0
Has key t = t.key ≡ key

-- the term is behind the key
abbrev IsAfter : List ℕ → SegmentTerm → Type 0
IsAfter key t = by_bytes key t.key ≡ Less

-- ---- a step of the list

filter-all : {A : Type 0} (p : A → Bool) (xs : List A) → AllByRecursion (λ x. p x ≡ true) xs → filter p xs ≡ xs
filter-all p [] h = refl
filter-all p (x ∷ xs) h = rw (h.0, filter-all p xs h.1) refl

filter-none : {A : Type 0} (p : A → Bool) (xs : List A) → AllByRecursion (λ x. p x ≡ false) xs → filter p xs ≡ []
filter-none p [] h = refl
filter-none p (x ∷ xs) h = rw (h.0, filter-none p xs h.1) refl

-- Terms of one key, and behind them greater ones.
step-parts : (key : List ℕ) (own bs : List SegmentTerm) → 0 < length own → AllByRecursion (Has key) own
    → AllByRecursion (IsAfter key) bs → merged_step (own ++ bs) ≡ record { left = bs; current = own }
step-parts key [] bs some has later = absurd (omega arith)
step-parts key (a ∷ own) bs some has later =
    let has-own : AllByRecursion (λ t. has_key a.key t ≡ true) (a ∷ own) =
    all_by (λ (t : SegmentTerm) h. own-key a.key t.key (h ∙ sym has.0)) (a ∷ own) has in
    let has-bs : AllByRecursion (λ t. has_key a.key t ≡ false) bs =
    all_by (λ (t : SegmentTerm) h. other-key a.key t.key (subst (λ k. by_bytes k t.key ≡ Less) (sym has.0) h))
    bs later in
    let not-own : AllByRecursion (λ t. not (has_key a.key t) ≡ false) (a ∷ own) = all_by (λ t h. ap not h) (a ∷ own) has-own in
    let not-bs : AllByRecursion (λ t. not (has_key a.key t) ≡ true) bs = all_by (λ t h. ap not h) bs has-bs in
    let current : filter (has_key a.key) ((a ∷ own) ++ bs) ≡ a ∷ own =
    filter-append (has_key a.key) (a ∷ own) bs
    ∙ ap (λ r. r ++ filter (has_key a.key) bs) (filter-all (has_key a.key) (a ∷ own) has-own)
    ∙ ap (λ r. (a ∷ own) ++ r) (filter-none (has_key a.key) bs has-bs) ∙ append-nil (a ∷ own) in
    let left : filter (λ t. not (has_key a.key t)) ((a ∷ own) ++ bs) ≡ bs =
    filter-append (λ t. not (has_key a.key t)) (a ∷ own) bs
    ∙ ap (λ r. r ++ filter (λ t. not (has_key a.key t)) bs)
    (filter-none (λ t. not (has_key a.key t)) (a ∷ own) not-own)
    ∙ filter-all (λ t. not (has_key a.key t)) bs not-bs in
    λ i. record { left = left i; current = current i }

-- ---- the terms of walks

in-segment-all : (P : SegmentTerm → Type 0) (segment : ℕ) (ps : List OrdTerm)
    → AllByRecursion (λ (p : OrdTerm). P (record { key = p.1; segment = segment; ord = p.0 })) ps
    → AllByRecursion P (in_segment segment ps)
in-segment-all P segment ps h = mapped_all P (λ (p : OrdTerm). record { key = p.1; segment = segment; ord = p.0 }) ps h

-- where a walk stands, and what it has left
here-has : (s : TermsWithSegmentOrd) (key : List ℕ) → key_at s.terms ≡ key
    → AllByRecursion (Has key) (in_segment s.segment_ord (here_of s.terms.current))
here-has s key e = go s.terms.current e
  where
    go : (c : Option OrdTerm) → option_map_or (λ (p : OrdTerm). p.1) c [] ≡ key
        → AllByRecursion (Has key) (in_segment s.segment_ord (here_of c))
    go None e = tt
    go (Some p) e = (e, tt)

left-after : (s : TermsWithSegmentOrd) → StandsAscending s
    → AllByRecursion (IsAfter (key_at s.terms)) (in_segment s.segment_ord s.terms.left)
left-after s h = go s.terms.current s.terms.left h.stands h.ascends
  where
    go : (c : Option OrdTerm) (ps : List OrdTerm) → is_some c ≡ true → TermsAscend (from_here c ps)
        → AllByRecursion (IsAfter (option_map_or (λ (p : OrdTerm). p.1) c [])) (in_segment s.segment_ord ps)
    go None ps on up = absurd (true≢false (sym on))
    go (Some p) ps on up = in-segment-all (IsAfter p.1) s.segment_ord ps (left-behind p ps up).0

left-ascends : (s : TermsWithSegmentOrd) → StandsAscending s → LeftAscends s
left-ascends s h = go s.terms.current s.terms.left h.stands h.ascends
  where
    go : (c : Option OrdTerm) (ps : List OrdTerm) → is_some c ≡ true → TermsAscend (from_here c ps) → TermsAscend ps
    go None ps on up = absurd (true≢false (sym on))
    go (Some p) ps on up = (left-behind p ps up).1

-- a walk at a later key is ahead by later terms alone
ahead-after : (key : List ℕ) (s : TermsWithSegmentOrd) → StandsAscending s → is_before key (key_at s.terms) ≡ true
    → AllByRecursion (IsAfter key) (in_segment s.segment_ord (from_here s.terms.current s.terms.left))
ahead-after key s h e = go s.terms.current s.terms.left h.stands h.ascends e
  where
    go : (c : Option OrdTerm) (ps : List OrdTerm) → is_some c ≡ true → TermsAscend (from_here c ps)
        → is_before key (option_map_or (λ (p : OrdTerm). p.1) c []) ≡ true
        → AllByRecursion (IsAfter key) (in_segment s.segment_ord (from_here c ps))
    go None ps on up e = absurd (true≢false (sym on))
    go (Some p) ps on up e =
        let first = less_where (by_bytes key p.1) e in (
          first,
          in-segment-all (IsAfter key) s.segment_ord ps
              (all_by (λ (q : OrdTerm) l. nat_list_cmp_total.trans key p.1 q.1 first l) ps (left-behind p ps up).0),
        )

here-some : (at : List TermsWithSegmentOrd) → 0 < length at → AllByRecursion StandsAscending at → 0 < length (terms_here at)
here-some [] some stand = absurd (omega arith)
here-some (s ∷ ss) some stand = go s.terms.current stand.0.stands
  where
    go : (c : Option OrdTerm) → is_some c ≡ true → 0 < length (in_segment s.segment_ord (here_of c) ++ terms_here ss)
    go None on = absurd (true≢false (sym on))
    go (Some p) on = omega arith

-- ---- a step of the merge

module _ (old at ahead : List TermsWithSegmentOrd) (stand : AllByRecursion StandsAscending old)
    (taken : AreTaken old at ahead) (later : AreLater (first_key at) ahead) where
  abbrev key : List ℕ
  key = first_key at

  pub both-stand : AllByRecursion StandsAscending at × AllByRecursion StandsAscending ahead
  both-stand = all-parts StandsAscending at ahead (all-moved StandsAscending old (at ++ ahead) taken.moved stand)

  here-all : AllByRecursion (Has key) (terms_here at)
  here-all =
      all-flat (Has key) (λ (s : TermsWithSegmentOrd). in_segment s.segment_ord (here_of s.terms.current)) at
      (all_by (λ s e. here-has s key e) at taken.together.keys)

  left-all : AllByRecursion (IsAfter key) (terms_left at)
  left-all =
      let each = all_both StandsAscending (λ s. key_at s.terms ≡ key) at both-stand.0 taken.together.keys in
      all-flat (IsAfter key) (λ (s : TermsWithSegmentOrd). in_segment s.segment_ord s.terms.left) at (all_by (λ s h.
      subst (λ k. AllByRecursion (IsAfter k) (in_segment s.segment_ord s.terms.left)) h.1 (left-after s h.0)) at
      each)

  ahead-all : AllByRecursion (IsAfter key) (terms_ahead ahead)
  ahead-all =
      let each = all_both StandsAscending (λ s. is_before key (key_at s.terms) ≡ true) ahead both-stand.1 later in
      all-flat (IsAfter key)
      (λ (s : TermsWithSegmentOrd). in_segment s.segment_ord (from_here s.terms.current s.terms.left)) ahead
      (all_by (λ s h. ahead-after key s h.0 h.1) ahead each)

  rest : List SegmentTerm
  rest = terms_left at ++ terms_ahead ahead

  parted : IsPermutation (terms_ahead (at ++ ahead)) (terms_here at ++ (terms_left at ++ terms_ahead ahead))
  parted =
      let by = λ (s : TermsWithSegmentOrd). in_segment s.segment_ord (from_here s.terms.current s.terms.left) in
      rw (flat_map-append by at ahead, ← append_assoc (terms_here at) (terms_left at) (terms_ahead ahead))
      (IsPermutation-append_left (terms_ahead ahead) _ _ (ahead-split at))

  before-all : (ts us : List SegmentTerm) → AllByRecursion (Has key) ts → AllByRecursion (IsAfter key) us
      → AllByRecursion (λ t. AllByRecursion (λ u. not (is_gt (term_cmp t u)) ≡ true) us) ts
  before-all ts us own after =
      all_by (λ (t : SegmentTerm) h. all_by
      (λ (u : SegmentTerm) l. before-term t u (subst (λ k. by_bytes k u.key ≡ Less) (sym h) l)) us after) ts own

  ordered : in_order (terms_ahead old) ≡ in_order (terms_here at) ++ in_order (terms_left at ++ terms_ahead ahead)
  ordered =
      ahead-moved old (at ++ ahead) taken.moved
      ∙ sorted-moved term_cmp term_cmp-total term_cmp-apart (terms_ahead (at ++ ahead))
      (terms_here at ++ (terms_left at ++ terms_ahead ahead)) parted
      ∙ sorted-joined _ (terms_here at) (terms_left at ++ terms_ahead ahead) (before-all (terms_here at)
      (terms_left at ++ terms_ahead ahead) here-all
      (all-two (IsAfter key) (terms_left at) (terms_ahead ahead) left-all ahead-all))

  here-long : 0 < length (in_order (terms_here at))
  here-long =
      omega (
        arith,
        length_permutation _ _ (moved-sorted (λ a b. not (is_gt (term_cmp a b))) (terms_here at)),
        here-some at taken.together.some both-stand.0,
      )

  -- the merge stands on the least key, with all its terms
  pub merged-on : merging_by true at ahead ≡ merged_step (in_order (terms_ahead old))
  merged-on =
      let after = all-two (IsAfter key) (terms_left at) (terms_ahead ahead) left-all ahead-all in
      sym (ap merged_step ordered
      ∙ step-parts key (in_order (terms_here at)) (in_order (terms_left at ++ terms_ahead ahead)) here-long
      (all-sorted _ (Has key) (terms_here at) here-all)
      (all-sorted _ (IsAfter key) (terms_left at ++ terms_ahead ahead) after))

  pub merged-found : is_on_key (merging_by true at ahead) ≡ true
  merged-found = go (in_order (terms_here at)) here-long
    where
      go : (ts : List SegmentTerm) → 0 < length ts → not (length ts == 0) ≡ true
      go ts h = ap not (ne_eqb (length ts) 0 (λ e. absurd (omega (arith, e, h))))

  pub still-ready : AreReady at ahead
  still-ready = record {
    left_ascends = all_by (λ s h. left-ascends s h) at both-stand.0;
    stand = both-stand.1;
    heap = taken.heap;
  }

  pub all-stand : AllStand at
  all-stand = all_by (λ s (h : StandsAscending s). h.stands) at both-stand.0

no-terms : in_order [] ≡ []
unfolding sorted_items
no-terms = refl

-- ---- a step, found or not

module _ (found : Bool) (heap at ahead : List TermsWithSegmentOrd) (ready : AreReady [] heap) (least : IsLeast found heap at ahead) where
  abbrev end-at : (old at ahead : List TermsWithSegmentOrd) → (old ≡ []) × (at ≡ []) × (ahead ≡ [])
      → merging_by false at ahead ≡ merged_step (in_order (terms_ahead old))
  end-at old at ahead e =
      let left : in_order (terms_left at ++ terms_ahead ahead) ≡ [] =
      ap (λ ss. in_order (terms_left ss ++ terms_ahead ahead)) e.1 ∙ ap (λ ss. in_order (terms_ahead ss)) e.2
      ∙ no-terms in
      let all : in_order (terms_ahead old) ≡ [] = ap (λ ss. in_order (terms_ahead ss)) e.0 ∙ no-terms in
      ap (λ ts. record { left = ts; current = [] }) left ∙ sym (ap merged_step all)

  -- the merge afterwards
  pub advanced : merging_by found at ahead ≡ merged_step (in_order (terms_ahead heap))
  advanced = go found least
    where
      go : (b : Bool) → IsLeast b heap at ahead → merging_by b at ahead ≡ merged_step (in_order (terms_ahead heap))
      go true l = merged-on heap at ahead ready.stand l.0 l.1
      go false l = end-at heap at ahead l

  -- after a step the merge stands on a key where walks were found, and there alone
  pub advanced-found : found ≡ is_on_key (merging_by found at ahead)
  advanced-found = go found least
    where
      go : (b : Bool) → IsLeast b heap at ahead → b ≡ is_on_key (merging_by b at ahead)
      go true l = sym (merged-found heap at ahead ready.stand l.0 l.1)
      go false l = refl

  -- after a step the walks at the key and those ahead are ready for the next one
  pub advanced-ready : AreReady at ahead
  advanced-ready = go found least
    where
      go : (b : Bool) → IsLeast b heap at ahead → AreReady at ahead
      go true l = still-ready heap at ahead ready.stand l.0 l.1
      go false l = subst (λ ss. AreReady ss ahead) (sym l.1) (subst (AreReady []) (l.0 ∙ sym l.2) ready)

  -- where walks were found, all of them stand on one key
  pub advanced-together : StandIf found at
  advanced-together = go found least
    where
      go : (b : Bool) → IsLeast b heap at ahead → StandIf b at
      go true l = (all-stand heap at ahead ready.stand l.0 l.1, l.0.together)
      go false l = tt

  -- the walks at the key and those ahead are as many as the walks before
  pub advanced-long : length at + length ahead ≡ length heap
  advanced-long = go found least
    where
      go : (b : Bool) → IsLeast b heap at ahead → length at + length ahead ≡ length heap
      go true l = omega (arith, length-append at ahead, length_permutation heap (at ++ ahead) l.0.moved)
      go false l = rw (l.0, l.1, l.2) refl

-- ---- where the merge stands

-- the key of the first walk is that of the first term
pub key-here : (at : List TermsWithSegmentOrd) → AllStand at → StandTogether at → key_of (in_order (terms_here at)) ≡ first_key at
key-here at stand together = go (in_order (terms_here at)) long has
  where
    some : (ss : List TermsWithSegmentOrd) → 0 < length ss → AllStand ss → 0 < length (terms_here ss)
    some [] h a = absurd (omega arith)
    some (s ∷ ss) h a = one s.terms.current a.0
      where
        one : (c : Option OrdTerm) → is_some c ≡ true → 0 < length (in_segment s.segment_ord (here_of c) ++ terms_here ss)
        one None on = absurd (true≢false (sym on))
        one (Some p) on = omega arith

    long : 0 < length (in_order (terms_here at))
    long =
        omega (
          arith,
          length_permutation _ _ (moved-sorted (λ a b. not (is_gt (term_cmp a b))) (terms_here at)),
          some at together.some stand,
        )

    has : AllByRecursion (Has (first_key at)) (in_order (terms_here at))
    has =
        all-sorted _ (Has (first_key at)) (terms_here at) (all-flat (Has (first_key at))
        (λ (s : TermsWithSegmentOrd). in_segment s.segment_ord (here_of s.terms.current)) at
        (all_by (λ s e. here-has s (first_key at) e) at together.keys))

    go : (ts : List SegmentTerm) → 0 < length ts → AllByRecursion (Has (first_key at)) ts → key_of ts ≡ first_key at
    go [] h a = absurd (omega arith)
    go (t ∷ ts) h a = a.0

-- the places of walks are those of the terms where they stand
places-here : (at : List TermsWithSegmentOrd) → AllStand at → places_of (terms_here at) ≡ places_at at
places-here [] stand = refl
places-here (s ∷ ss) stand = one s.terms.current stand.0 (places-here ss stand.1)
  where
    one : (c : Option OrdTerm) → is_some c ≡ true → places_of (terms_here ss) ≡ places_at ss
        → places_of (in_segment s.segment_ord (here_of c) ++ terms_here ss)
        ≡ (s.segment_ord, option_map_or (λ (p : OrdTerm). p.0) c 0) ∷ places_at ss
    one None on more = absurd (true≢false (sym on))
    one (Some p) on more = ap (λ ps. (s.segment_ord, p.0) ∷ ps) more

pub places-moved : (at : List TermsWithSegmentOrd) → AllStand at → IsPermutation (places_of (in_order (terms_here at))) (places_at at)
places-moved at stand =
    let back = IsPermutation-sym _ _ (moved-sorted (λ a b. not (is_gt (term_cmp a b))) (terms_here at)) in
    subst (IsPermutation (places_of (in_order (terms_here at)))) (places-here at stand)
    (IsPermutation-map (λ (t : SegmentTerm). (t.segment, t.ord)) _ _ back)

segments-at : (at : List TermsWithSegmentOrd) → map (λ (p : ℕ × ℕ). p.0) (places_at at) ≡ walk_segments at
segments-at [] = refl
segments-at (s ∷ ss) = ap (λ ns. s.segment_ord ∷ ns) (segments-at ss)

pub places-ascend : (at : List TermsWithSegmentOrd) → StandTogether at → is_never_falling (map (λ (p : ℕ × ℕ). p.0) (places_at at)) ≡ true
places-ascend at together = ap is_never_falling (segments-at at) ∙ together.segments

-- ---- what a merge that stands on a key tells

module _ (found : Bool) (at ahead : List TermsWithSegmentOrd) (together : StandIf found at)
    (on : is_on_key (merging_by found at ahead) ≡ true) where
  -- the first of the walks at the key stands on the key of the merge
  pub first-key : (x : TermsWithSegmentOrd) → x ≡ slice_index_or at 0 x → key_at x.terms ≡ key_of (merging_by found at ahead).current
  first-key x e = go found together on
    where
      go : (b : Bool) → StandIf b at → is_on_key (merging_by b at ahead) ≡ true → key_at x.terms ≡ key_of (merging_by b at ahead).current
      go true h on = top-key at x h.1.some e ∙ sym (key-here at h.0 h.1)
      go false h on = absurd (true≢false (sym on))

  -- the places of the merge's terms are those of the walks at the key, in some order
  pub all-places : IsPermutation (places_of (merging_by found at ahead).current) (places_at at)
  all-places = go found together on
    where
      go : (b : Bool) → StandIf b at → is_on_key (merging_by b at ahead) ≡ true
          → IsPermutation (places_of (merging_by b at ahead).current) (places_at at)
      go true h on = places-moved at h.0
      go false h on = absurd (true≢false (sym on))

  -- the segments of the walks at the key never fall
  pub ascending-places : is_never_falling (map (λ (p : ℕ × ℕ). p.0) (places_at at)) ≡ true
  ascending-places = go found together on
    where
      go : (b : Bool) → StandIf b at → is_on_key (merging_by b at ahead) ≡ true
          → is_never_falling (map (λ (p : ℕ × ℕ). p.0) (places_at at)) ≡ true
      go true h on = places-ascend at h.1
      go false h on = absurd (true≢false (sym on))
