-- How a merge keeps its walks: those on the key where it stands, and the others in a heap.
use Rattle.std.specs.Prelude.{◌≡◌, ℕ, ◌<◌, ◌≤◌, ◌+◌, Bool, true, false, List, [], ◌∷◌, ◌++◌, map, length, is_some, if◌then◌else◌, IsPermutation}
use Rattle.std.specs.declared.cmp.Ordering.{Ordering}
use Rattle.std.specs.List.{AllByRecursion}
use Rattle.std.specs.Ordering.{nat_cmp, is_lt, ordering_then}
use Rattle.std.specs.Cmp.Lexicographic.{slice_cmp}
use Rattle.std.specs.BinaryHeap.{IsHeap}
use Rattle.col_common.specs.Ascending.{is_before, is_never_falling}
use Rattle.col_merge_terms.specs.declared.terms_with_segment_ord.TermsWithSegmentOrd.{TermsWithSegmentOrd}
use Rattle.col_merge_terms.specs.Keys.{key_at, from_here}
use Rattle.col_merge_terms.specs.Places.{AllStand}
use Rattle.col_merge_terms.specs.Merging.{Merging, in_order, terms_left, terms_here, terms_ahead, TermsAscend, LeftAscends}

-- the order of walks, in which the one with the least key is the greatest, and of these the one of
-- the first segment
abbrev pub stream_cmp : TermsWithSegmentOrd → TermsWithSegmentOrd → Ordering
stream_cmp a b = ordering_then (slice_cmp nat_cmp (key_at b.terms) (key_at a.terms))
    (nat_cmp b.segment_ord a.segment_ord)

-- the walk stands on a term, and from there on terms ascend
pub record StandsAscending (s : TermsWithSegmentOrd) : Type 0 where
  pub stands : is_some s.terms.current ≡ true
  pub ascends : TermsAscend (from_here s.terms.current s.terms.left)

-- walks that are at the key where a merge stands, and walks ahead of it, in a heap
pub record AreReady (at ahead : List TermsWithSegmentOrd) : Type 0 where
  pub left_ascends : AllByRecursion LeftAscends at
  pub stand : AllByRecursion StandsAscending ahead
  pub heap : IsHeap stream_cmp ahead

-- the segments of walks
abbrev pub walk_segments : List TermsWithSegmentOrd → List ℕ
walk_segments ss = map (λ s. s.segment_ord) ss

-- the key of the first walk
abbrev pub first_key : List TermsWithSegmentOrd → List ℕ
first_key [] = []
first_key (s ∷ ss) = key_at s.terms

-- walks at one key, by their segments
pub record StandTogether (at : List TermsWithSegmentOrd) : Type 0 where
  pub some : 0 < length at
  pub keys : AllByRecursion (λ s. key_at s.terms ≡ first_key at) at
  pub segments : is_never_falling (walk_segments at) ≡ true

-- where the merge stands on a key, so do these walks
abbrev pub StandIf : Bool → List TermsWithSegmentOrd → Type 0
StandIf true at = AllStand at × StandTogether at
StandIf false at = Unit {0}

-- what a merge holds, with room for all walks in both lists
pub record IsMerger (is_on : Bool) (at ahead : List TermsWithSegmentOrd) (room heap_room : ℕ)
    : Type 0 where
  pub ready : AreReady at ahead
  pub together : StandIf is_on at
  pub fits : length at + length ahead ≤ room
  pub fits_heap : length at + length ahead ≤ heap_room

-- the merge of these walks
abbrev pub merging_by : Bool → List TermsWithSegmentOrd → List TermsWithSegmentOrd → Merging
merging_by is_on at ahead = record {
  left = in_order (terms_left at ++ terms_ahead ahead);
  current = if is_on then in_order (terms_here at) else [];
}

-- the second walk doesn't come before the first
abbrev pub IsBehind : TermsWithSegmentOrd → TermsWithSegmentOrd → Type 0
IsBehind s t = is_lt (stream_cmp s t) ≡ false

-- Walks were taken out of a heap, the least key first, and those behind them are left.
pub record AreTaken (old at ahead : List TermsWithSegmentOrd) : Type 0 where
  pub moved : IsPermutation old (at ++ ahead)
  pub heap : IsHeap stream_cmp ahead
  pub together : StandTogether at
  pub behind : AllByRecursion (λ s. AllByRecursion (IsBehind s) ahead) at

-- walks at keys behind this one
abbrev pub AreLater : List ℕ → List TermsWithSegmentOrd → Type 0
AreLater key ahead = AllByRecursion (λ s. is_before key (key_at s.terms) ≡ true) ahead

-- A heap's first walk is at the key; else all walks are behind it.
abbrev pub IsFirstAt : Bool → List ℕ → List TermsWithSegmentOrd → Type 0
IsFirstAt true key ahead = (0 < length ahead) × (first_key ahead ≡ key)
IsFirstAt false key ahead = AreLater key ahead

-- The walks with the least key were taken out of a heap; there is none exactly where it is empty.
abbrev pub IsLeast : Bool → List TermsWithSegmentOrd → List TermsWithSegmentOrd
    → List TermsWithSegmentOrd → Type 0
IsLeast true old at ahead = AreTaken old at ahead × AreLater (first_key at) ahead
IsLeast false old at ahead = (old ≡ []) × (at ≡ []) × (ahead ≡ [])
