-- The segments that walks are of, with the ordinals where they stand.
use Rattle.std.specs.Prelude.{◌≡◌, ℕ, true, List, map, is_some}
use Rattle.std.specs.List.{AllByRecursion}
use Rattle.col_merge_terms.specs.declared.terms_with_segment_ord.TermsWithSegmentOrd.{TermsWithSegmentOrd}
use Rattle.col_merge_terms.specs.Keys.{ord_at}

-- a walk's segment, and the ordinal where it stands
abbrev pub place_at : TermsWithSegmentOrd → ℕ × ℕ
place_at s = (s.segment_ord, ord_at s.terms)

-- the same of several walks
abbrev pub places_at : List TermsWithSegmentOrd → List (ℕ × ℕ)
places_at ss = map place_at ss

-- each walk stands on a term
abbrev pub AllStand : List TermsWithSegmentOrd → Type 0
AllStand ss = AllByRecursion (λ s. is_some s.terms.current ≡ true) ss
