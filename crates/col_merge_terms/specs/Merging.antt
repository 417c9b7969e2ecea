-- The terms of several segments in one order.
use Rattle.std.specs.Prelude.{◌≡◌, ℕ, not, Bool, true, List, [], ◌∷◌, map, filter, flat_map, length, ◌==◌, bytes_eq}
use Rattle.std.specs.declared.cmp.Ordering.{Ordering}
use Rattle.std.specs.Ordering.{nat_cmp, is_gt, ordering_then}
use Rattle.std.specs.Cmp.Lexicographic.{slice_cmp}
use Rattle.col_common.specs.Ascending.{is_ascending}
use Rattle.col_model.specs.Sorted.{sorted_items}
use Rattle.col_terms.specs.Streams.{OrdTerm}
use Rattle.col_merge_terms.specs.declared.terms_with_segment_ord.TermsWithSegmentOrd.{TermsWithSegmentOrd}
use Rattle.col_merge_terms.specs.Keys.{here_of, from_here}

-- a term, with its segment and its ordinal there
pub record SegmentTerm : Type 0 where
  pub key : List ℕ
  pub segment : ℕ
  pub ord : ℕ

-- by term, then by segment, then by ordinal
abbrev pub term_cmp : SegmentTerm → SegmentTerm → Ordering
term_cmp a b = ordering_then (slice_cmp nat_cmp a.key b.key)
    (ordering_then (nat_cmp a.segment b.segment) (nat_cmp a.ord b.ord))

-- the terms in this order
abbrev pub in_order : List SegmentTerm → List SegmentTerm
in_order ts = sorted_items (λ a b. not (is_gt (term_cmp a b))) ts

-- the term is the key
abbrev pub has_key : List ℕ → SegmentTerm → Bool
has_key key t = bytes_eq key t.key

-- terms of a segment
abbrev pub in_segment : ℕ → List OrdTerm → List SegmentTerm
in_segment segment ps = map (λ p. record { key = p.1; segment = segment; ord = p.0 }) ps

-- the terms that walks have still to give
abbrev pub terms_left : List TermsWithSegmentOrd → List SegmentTerm
terms_left ss = flat_map (λ s. in_segment s.segment_ord s.terms.left) ss

-- the terms where they stand
abbrev pub terms_here : List TermsWithSegmentOrd → List SegmentTerm
terms_here ss = flat_map (λ s. in_segment s.segment_ord (here_of s.terms.current)) ss

-- both
abbrev pub terms_ahead : List TermsWithSegmentOrd → List SegmentTerm
terms_ahead ss =
    flat_map (λ s. in_segment s.segment_ord (from_here s.terms.current s.terms.left)) ss

-- terms ascend
abbrev pub TermsAscend : List OrdTerm → Type 0
TermsAscend ps = is_ascending (map (λ p. p.1) ps) ≡ true

-- those that a walk has still to give ascend
abbrev pub LeftAscends : TermsWithSegmentOrd → Type 0
LeftAscends s = TermsAscend s.terms.left

-- Terms that are still to come, and those of the key where the merge stands: all that are that
-- key, by their segments.
pub record Merging : Type 0 where
  pub left : List SegmentTerm
  pub current : List SegmentTerm

-- a merge of these terms that hasn't begun
abbrev pub merging_of : List SegmentTerm → Merging
merging_of ts = record { left = in_order ts; current = [] }

-- a merge with these terms left, after a step: the least key with all its terms
abbrev pub merged_step : List SegmentTerm → Merging
merged_step [] = record { left = []; current = [] }
merged_step (t ∷ ts) = record {
  left = filter (λ u. not (has_key t.key u)) (t ∷ ts);
  current = filter (has_key t.key) (t ∷ ts);
}

-- the merge stands on a key
abbrev pub is_on_key : Merging → Bool
is_on_key m = not (length m.current == 0)

-- the key of the first of these terms
abbrev pub key_of : List SegmentTerm → List ℕ
key_of [] = []
key_of (t ∷ ts) = t.key

-- the segments of these terms, with their ordinals there
abbrev pub places_of : List SegmentTerm → List (ℕ × ℕ)
places_of ts = map (λ t. (t.segment, t.ord)) ts
