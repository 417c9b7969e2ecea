-- Walks that go into the heap, and those that are taken out of it.
use Rattle.std.proofs.Common.{◌≡◌, ℕ, ◌<◌, ◌≤◌, Bool, true, false, List, [], ◌∷◌, ◌++◌, length, is_some, bytes_eq, slice_index_or, append_assoc, append-nil, length-append, refl, sym, ap, ◌∙◌, subst, arith, IsPermutation}
use Rattle.std.specs.Prelude.{◌&&◌, nat_le}
use Rattle.std.specs.List.{AllByRecursion}
use Rattle.std.specs.Ordering.{is_lt}
use Rattle.std.specs.BinaryHeap.{IsHeap}
use Rattle.std.proofs.lemmas.Bool.{le-leb, true≢false}
use Rattle.std.proofs.lemmas.List.{map-append}
use Rattle.std.proofs.lemmas.List.Concat.{flat_map-append}
use Rattle.std.proofs.lemmas.List.Sorted.{IsPermutation-refl, IsPermutation-trans, IsPermutation-pop_more}
use Rattle.col_common.specs.Ascending.{is_never_falling}
use Rattle.col_model.proofs.ListLaws.{all_push}
use Rattle.col_model.proofs.OrderingLaws.{bytes_eq-true}
use Rattle.col_model.proofs.StatsLaws.{all_by}
use Rattle.col_terms.specs.Streams.{TermStream}
use Rattle.col_terms.specs.Streams as walks
use Rattle.col_merge_terms.specs.declared.terms_with_segment_ord.TermsWithSegmentOrd.{TermsWithSegmentOrd}
use Rattle.col_merge_terms.specs.Keys.{key_at, from_here}
use Rattle.col_merge_terms.specs.Merging.{SegmentTerm, term_cmp, in_segment, in_order, terms_left, terms_ahead, TermsAscend, LeftAscends}
use Rattle.col_merge_terms.specs.Moves.{StandsAscending, AreReady, AreTaken, IsBehind, IsFirstAt, first_key, walk_segments, stream_cmp}
use Rattle.col_model.proofs.PermutationLaws.{all-moved, flat-moved}
use Rattle.col_model.proofs.SortLaws.{sorted-moved, sorted-behind}
use Rattle.col_merge_terms.proofs.KeyLemmas.{term_cmp-total, term_cmp-apart, by_bytes, behind-key, behind-segment, key-behind, key-further}
use Rattle.col_merge_terms.proofs.StreamLemmas.{stepped-ahead}

abbrev ahead_by : TermsWithSegmentOrd → List SegmentTerm
ahead_by s = in_segment s.segment_ord (from_here s.terms.current s.terms.left)

-- walks that are moved are ahead by the same terms
pub ahead-moved : (xs ys : List TermsWithSegmentOrd) → IsPermutation xs ys → in_order (terms_ahead xs) ≡ in_order (terms_ahead ys)
ahead-moved xs ys p = sorted-moved term_cmp term_cmp-total term_cmp-apart (terms_ahead xs) (terms_ahead ys) (flat-moved ahead_by xs ys p)

-- ---- into the heap

-- a walk went a step on, and was put in
pub put-ready : (s t : TermsWithSegmentOrd) (ahead heap : List TermsWithSegmentOrd) → LeftAscends s
    → t.terms ≡ walks.stepped s.terms.left → is_some t.terms.current ≡ true → AreReady [] ahead
    → IsPermutation (t ∷ ahead) heap → (IsHeap stream_cmp ahead → IsHeap stream_cmp heap) → AreReady [] heap
put-ready s t ahead heap up step on ready p h =
    let ascend = subst TermsAscend (sym (stepped-ahead s.terms t.terms step on)) up in
    record {
      left_ascends = tt;
      stand = all-moved StandsAscending (t ∷ ahead) heap p (record { stands = on; ascends = ascend }, ready.stand);
      heap = h ready.heap;
    }

-- a walk that steps onto its next term has, with those ahead, the same terms still to give
pub put-same : (s t : TermsWithSegmentOrd) (ahead heap : List TermsWithSegmentOrd) → t.segment_ord ≡ s.segment_ord
    → t.terms ≡ walks.stepped s.terms.left → is_some t.terms.current ≡ true → IsPermutation (t ∷ ahead) heap
    → in_order (terms_ahead heap) ≡ in_order (terms_left (s ∷ []) ++ terms_ahead ahead)
put-same s t ahead heap e step on p =
    let own : ahead_by t ≡ in_segment s.segment_ord s.terms.left =
    ap (λ n. in_segment n (from_here t.terms.current t.terms.left)) e
    ∙ ap (in_segment s.segment_ord) (stepped-ahead s.terms t.terms step on) in
    sym (ahead-moved (t ∷ ahead) heap p)
    ∙ ap (λ r. in_order (r ++ terms_ahead ahead)) (own ∙ sym (append-nil (in_segment s.segment_ord s.terms.left)))

-- the last of several walks was put in
pub gone-same :
    (all front : List TermsWithSegmentOrd) (s : TermsWithSegmentOrd) (ahead heap : List TermsWithSegmentOrd)
    → all ≡ front ++ s ∷ [] → in_order (terms_ahead heap) ≡ in_order (terms_left (s ∷ []) ++ terms_ahead ahead)
    → in_order (terms_left front ++ terms_ahead heap) ≡ in_order (terms_left all ++ terms_ahead ahead)
gone-same all front s ahead heap e same =
    let left = λ (t : TermsWithSegmentOrd). in_segment t.segment_ord t.terms.left in
    sorted-behind _ (terms_left front) (terms_ahead heap) (terms_left (s ∷ []) ++ terms_ahead ahead) same
    ∙ ap in_order (sym (append_assoc (terms_left front) (terms_left (s ∷ [])) (terms_ahead ahead)))
    ∙ ap (λ r. in_order (r ++ terms_ahead ahead)) (sym (flat_map-append left front (s ∷ [])))
    ∙ ap (λ r. in_order (terms_left r ++ terms_ahead ahead)) (sym e)

-- ---- out of the heap

-- the first walk of a heap has its first key
pub top-key : (ahead : List TermsWithSegmentOrd) (x : TermsWithSegmentOrd) → 0 < length ahead
    → x ≡ slice_index_or ahead 0 x → key_at x.terms ≡ first_key ahead
top-key [] x h e = absurd (omega arith)
top-key (y ∷ ys) x h e = ap (λ (v : TermsWithSegmentOrd). key_at v.terms) e

first-kept : (at : List TermsWithSegmentOrd) (x : TermsWithSegmentOrd) → 0 < length at → first_key (at ++ x ∷ []) ≡ first_key at
first-kept [] x h = absurd (omega arith)
first-kept (s ∷ ss) x h = refl

never-falls : (xs : List ℕ) (y : ℕ) → is_never_falling xs ≡ true → AllByRecursion (λ x. x ≤ y) xs → is_never_falling (xs ++ y ∷ []) ≡ true
never-falls [] y up h = refl
never-falls (x ∷ []) y up h = rw (le-leb x y h.0) refl
never-falls (x ∷ z ∷ zs) y up h = go (nat_le x z) refl up (λ u. never-falls (z ∷ zs) y u h.1)
  where
    go : (b : Bool) → nat_le x z ≡ b → (b && is_never_falling (z ∷ zs)) ≡ true
        → (is_never_falling (z ∷ zs) ≡ true → is_never_falling ((z ∷ zs) ++ y ∷ []) ≡ true)
        → (nat_le x z && is_never_falling ((z ∷ zs) ++ y ∷ [])) ≡ true
    go true e u more = rw e (more u)
    go false e u more = absurd (true≢false (sym u))

-- what is behind the first of a heap's walks is behind those in front of it
behind-moved : (s x : TermsWithSegmentOrd) (ahead next : List TermsWithSegmentOrd) → IsPermutation ahead (x ∷ next)
    → AllByRecursion (IsBehind s) ahead → IsBehind s x × AllByRecursion (IsBehind s) next
behind-moved s x ahead next p h = let all = all-moved (IsBehind s) ahead (x ∷ next) p h in (all.0, all.1)

segment-kept : (at : List TermsWithSegmentOrd) (x : TermsWithSegmentOrd) (key : List ℕ)
    → AllByRecursion (λ s. key_at s.terms ≡ key) at → key_at x.terms ≡ key → AllByRecursion (λ s. IsBehind s x) at
    → AllByRecursion (λ n. n ≤ x.segment_ord) (walk_segments at)
segment-kept [] x key keys e h = tt
segment-kept (s ∷ ss) x key keys e h = (behind-segment s x h.0 (e ∙ sym keys.0), segment-kept ss x key keys.1 e h.1)

-- a walk at the key of those that were taken is taken too
pub taken-more : (at ahead next : List TermsWithSegmentOrd) (x : TermsWithSegmentOrd)
    → AreTaken (at ++ ahead) at ahead → key_at x.terms ≡ first_key at → IsPermutation ahead (x ∷ next)
    → IsHeap stream_cmp next → AllByRecursion (IsBehind x) next
    → AreTaken (at ++ ahead) (at ++ x ∷ []) next
taken-more at ahead next x taken e p heap behind =
    let each = all_by (λ s h. behind-moved s x ahead next p h) at taken.behind in
    let same = first-kept at x taken.together.some in
    let keys = all_push (λ s. key_at s.terms ≡ first_key at) at x taken.together.keys e in
    let segments = never-falls (walk_segments at) x.segment_ord taken.together.segments
    (segment-kept at x (first_key at) taken.together.keys e (all_by (λ s h. h.0) at each)) in
    record {
      moved = IsPermutation-pop_more (at ++ ahead) at ahead next x (IsPermutation-refl (at ++ ahead)) p;
      heap = heap;
      together = record {
        some = omega (arith, length-append at (x ∷ []));
        keys = subst (λ k. AllByRecursion (λ s. key_at s.terms ≡ k) (at ++ x ∷ [])) (sym same) keys;
        segments = ap is_never_falling (map-append (λ (s : TermsWithSegmentOrd). s.segment_ord) at (x ∷ [])) ∙ segments;
      };
      behind = all_push (λ s. AllByRecursion (IsBehind s) next) at x (all_by (λ s h. h.1) at each) behind;
    }

-- what was taken in two parts
pub taken-through : (old at ahead more rest : List TermsWithSegmentOrd) → AreTaken old at ahead
    → AreTaken (at ++ ahead) more rest → AreTaken old more rest
taken-through old at ahead more rest a b = record {
  moved = IsPermutation-trans old (at ++ ahead) (more ++ rest) a.moved b.moved;
  heap = b.heap;
  together = b.together;
  behind = b.behind;
}

-- the first walk was taken
pub taken-first : (old next : List TermsWithSegmentOrd) (x : TermsWithSegmentOrd) → IsPermutation old (x ∷ next)
    → IsHeap stream_cmp next → AllByRecursion (IsBehind x) next → AreTaken old (x ∷ []) next
taken-first old next x p heap behind = record {
  moved = p;
  heap = heap;
  together = record { some = omega arith; keys = (refl, tt); segments = refl };
  behind = (behind, tt);
}

first-behind : (at : List TermsWithSegmentOrd) (x : TermsWithSegmentOrd) → 0 < length at
    → AllByRecursion (λ s. IsBehind s x) at → is_lt (by_bytes (key_at x.terms) (first_key at)) ≡ false
first-behind [] x h all = absurd (omega arith)
first-behind (s ∷ ss) x h all = behind-key s x all.0

-- whether the least key of a heap is that of the walks that were taken
pub first-at : (test : Bool) (at ahead : List TermsWithSegmentOrd) (x : TermsWithSegmentOrd)
    → AreTaken (at ++ ahead) at ahead → 0 < length ahead → x ≡ slice_index_or ahead 0 x
    → AllByRecursion (IsBehind x) ahead
    → test ≡ bytes_eq (key_at x.terms) (first_key at) → IsFirstAt test (first_key at) ahead
first-at true at ahead x taken some top behind e =
    (some, sym (top-key ahead x some top) ∙ bytes_eq-true (key_at x.terms) (first_key at) (sym e))
first-at false at [] x taken some top behind e = tt
first-at false at (y ∷ ys) x taken some top behind e =
    let before-x : AllByRecursion (λ s. IsBehind s x) at =
    all_by (λ s (h : AllByRecursion (IsBehind s) (y ∷ ys)). subst (IsBehind s) (sym top) h.0) at taken.behind in
    let later = key-behind (first_key at) (key_at x.terms) (first-behind at x taken.together.some before-x) (sym e) in
    all_by (λ s h. ap is_lt (key-further (first_key at) (key_at x.terms) (key_at s.terms) later (behind-key x s h))) (y ∷ ys) behind
