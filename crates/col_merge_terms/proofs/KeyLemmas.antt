-- The order of keys, of terms with their segments, and of walks.
use Rattle.std.proofs.Common.{◌≡◌, ℕ, ◌≤◌, true, false, not, List, bytes_eq, refl, sym, ap, ◌∙◌, arith, ◌<◌}
use Rattle.std.specs.declared.cmp.Ordering.{Ordering}
use Rattle.std.specs.declared.cmp.Ordering.TheVariants.{Less, Equal, Greater}
use Rattle.std.specs.Ordering.{nat_cmp, is_lt, is_gt, is_eq, ordering_then, ordering_reverse}
use Rattle.std.specs.Cmp.{IsTotalOrder}
use Rattle.std.specs.Cmp.Lexicographic.{slice_cmp}
use Rattle.std.specs.FinMap.{IsAntisymmetric}
use Rattle.std.proofs.lemmas.Bool.{true≢false}
use Rattle.std.proofs.lemmas.Cmp.{nat_list_cmp_total, nat_cmp_total, on_total, then_total, tied_itself, alike_right, ranked, by_ranked}
use Rattle.std.proofs.lemmas.Map.Text.{is_eq-slice_cmp}
use Rattle.col_common.proofs.OctetLemmas.{then_equal, cmp_equal}
use Rattle.col_model.proofs.OrderingLaws.{bytes_eq-same}
use Rattle.col_model.proofs.SeenLaws.{text_cmp-antisymmetric}
use Rattle.col_merge_terms.specs.declared.terms_with_segment_ord.TermsWithSegmentOrd.{TermsWithSegmentOrd}
use Rattle.col_merge_terms.specs.Keys.{key_at}
use Rattle.col_merge_terms.specs.Merging.{SegmentTerm, term_cmp}
use Rattle.col_merge_terms.specs.Moves.{IsBehind}

-- the order of keys
abbrev pub by_bytes : List ℕ → List ℕ → Ordering
by_bytes = slice_cmp nat_cmp

then-not_less : (a b : Ordering) → is_lt (ordering_then a b) ≡ false → is_lt a ≡ false
then-not_less Less b e = e
then-not_less Equal b e = refl
then-not_less Greater b e = refl

-- ---- terms of segments

-- terms compare as less, equal or greater in a total order
pub term_cmp-total : IsTotalOrder term_cmp
term_cmp-total =
    then_total (on_total (λ (t : SegmentTerm). t.key) nat_list_cmp_total)
    (then_total (on_total (λ (t : SegmentTerm). t.segment) nat_cmp_total) (on_total (λ (t : SegmentTerm). t.ord) nat_cmp_total))

same-term : (a b : SegmentTerm) → a.key ≡ b.key → a.segment ≡ b.segment → a.ord ≡ b.ord → a ≡ b
same-term a b p q r = λ i. record { key = p i; segment = q i; ord = r i }

-- terms that compare as equal are the same
pub term_cmp-apart : IsAntisymmetric term_cmp
term_cmp-apart a b e =
    let first = then_equal (by_bytes a.key b.key) _ e in
    let rest = then_equal (nat_cmp a.segment b.segment) _ first.1 in
    same-term a b (text_cmp-antisymmetric a.key b.key first.0) (cmp_equal a.segment b.segment rest.0) (cmp_equal a.ord b.ord rest.1)

-- a term of a lesser key stands before
pub before-term : (t u : SegmentTerm) → by_bytes t.key u.key ≡ Less → not (is_gt (term_cmp t u)) ≡ true
before-term t u e = rw e refl

-- ---- keys

-- a key that is below another isn't equal to it
pub other-key : (key other : List ℕ) → by_bytes key other ≡ Less → bytes_eq key other ≡ false
other-key key other e = sym (is_eq-slice_cmp key other) ∙ ap is_eq e

-- a key is equal to the same key
pub own-key : (key other : List ℕ) → other ≡ key → bytes_eq key other ≡ true
own-key key other e = rw e (bytes_eq-same key)

-- a key compares as equal to itself
pub key-tied : (key : List ℕ) → by_bytes key key ≡ Equal
key-tied key = tied_itself nat_list_cmp_total key

-- a key that isn't before another, and differs from it, is behind it
pub key-behind : (key other : List ℕ) → is_lt (by_bytes other key) ≡ false → bytes_eq other key ≡ false → by_bytes key other ≡ Less
key-behind key other h d = go (by_bytes other key) refl
  where
    go : (r : Ordering) → by_bytes other key ≡ r → by_bytes key other ≡ Less
    go Less e = absurd (true≢false (sym (ap is_lt e) ∙ h))
    go Equal e = absurd (true≢false (sym (ap is_eq e) ∙ is_eq-slice_cmp other key ∙ d))
    go Greater e = nat_list_cmp_total.antisymm key other ∙ ap ordering_reverse e

-- a key behind another, and one that isn't before that
pub key-further : (key other third : List ℕ) → by_bytes key other ≡ Less → is_lt (by_bytes third other) ≡ false → by_bytes key third ≡ Less
key-further key other third e h = go (by_bytes third other) refl
  where
    go : (r : Ordering) → by_bytes third other ≡ r → by_bytes key third ≡ Less
    go Less f = absurd (true≢false (sym (ap is_lt f) ∙ h))
    go Equal f = alike_right nat_list_cmp_total third other key f ∙ e
    go Greater f = nat_list_cmp_total.trans key other third e (nat_list_cmp_total.antisymm other third ∙ ap ordering_reverse f)

-- ---- walks

-- the key of a walk that doesn't come before another isn't before the other's
pub behind-key : (s t : TermsWithSegmentOrd) → IsBehind s t → is_lt (by_bytes (key_at t.terms) (key_at s.terms)) ≡ false
behind-key s t h = then-not_less (by_bytes (key_at t.terms) (key_at s.terms)) _ h

not-less : (a b : ℕ) → is_lt (nat_cmp a b) ≡ false → b ≤ a
not-less a b h =
    by_ranked (a < b) (a ≡ b) (b < a) (nat_cmp a b) (ranked a b (nat_cmp a b) refl)
    (λ f l. absurd (true≢false (sym (ap is_lt f) ∙ h))) (λ f l. omega arith) (λ f l. omega arith)

-- walks at one key that don't come before one another have segments that don't fall
pub behind-segment : (s t : TermsWithSegmentOrd) → IsBehind s t → key_at t.terms ≡ key_at s.terms → s.segment_ord ≤ t.segment_ord
behind-segment s t h e =
    let tied : by_bytes (key_at t.terms) (key_at s.terms) ≡ Equal = rw e (key-tied (key_at s.terms)) in
    let left : is_lt (nat_cmp t.segment_ord s.segment_ord) ≡ false =
    sym (ap (λ r. is_lt (ordering_then r (nat_cmp t.segment_ord s.segment_ord))) tied) ∙ h in
    not-less t.segment_ord s.segment_ord left
