-- What walks have to give, where they are and further on.
use Rattle.std.proofs.Common.{◌≡◌, ℕ, ◌+◌, ◌<◌, true, List, [], ◌∷◌, ◌++◌, map, take, length, get_or, is_some, Option, Some, None, append_assoc, refl, sym, ap, ◌∙◌, subst, IsPermutation}
use Rattle.std.specs.List.{AllByRecursion}
use Rattle.std.specs.List.Sorted.{IsStrictlySortedBy}
use Rattle.std.specs.declared.cmp.Ordering.TheVariants.{Less}
use Rattle.std.proofs.lemmas.Bool.{true≢false}
use Rattle.std.proofs.lemmas.List.{take_more}
use Rattle.std.proofs.lemmas.List.Sorted.{IsPermutation-refl, IsPermutation-trans, IsPermutation-append_left, IsPermutation-append_right, IsPermutation-append_comm}
use Rattle.col_model.proofs.ListLaws.{all_push, ascending-tail}
use Rattle.col_model.proofs.StatsLaws.{all_mapped}
use Rattle.col_terms.specs.Streams.{OrdTerm, TermStream}
use Rattle.col_terms.specs.Streams as walks
use Rattle.col_terms.proofs.SearchLemmas.{in_order}
use Rattle.col_merge_terms.specs.declared.terms_with_segment_ord.TermsWithSegmentOrd.{TermsWithSegmentOrd}
use Rattle.col_merge_terms.specs.Keys.{here_of, from_here}
use Rattle.col_merge_terms.specs.Merging.{in_segment, terms_left, terms_here, terms_ahead, TermsAscend, LeftAscends}
use Rattle.col_merge_terms.proofs.KeyLemmas.{by_bytes}

-- ---- terms that ascend

-- the terms of one walk more ascend
pub ascend-more : (ss : List TermsWithSegmentOrd) (n : ℕ) (s : TermsWithSegmentOrd) → n < length ss
    → s ≡ get_or ss n s → AllByRecursion LeftAscends (take n ss) → LeftAscends s
    → AllByRecursion LeftAscends (take (n + 1) ss)
ascend-more ss n s low is all last =
    subst (AllByRecursion LeftAscends) (sym (take_more ss n s low))
    (all_push LeftAscends (take n ss) (get_or ss n s) all (subst LeftAscends is last))

-- behind the term where a walk stands there are greater ones
pub left-behind : (p : OrdTerm) (ps : List OrdTerm) → TermsAscend (p ∷ ps)
    → AllByRecursion (λ (q : OrdTerm). by_bytes p.1 q.1 ≡ Less) ps × TermsAscend ps
unfolding IsStrictlySortedBy
left-behind p ps h =
    let texts : List (List ℕ) = map (λ (q : OrdTerm). q.1) ps in
    (all_mapped (λ k. by_bytes p.1 k ≡ Less) (λ (q : OrdTerm). q.1) ps (in_order (p.1 ∷ texts) h).0, ascending-tail p.1 texts h)

-- ---- a step of one walk

-- a walk that went a step on is ahead by what it had left
pub stepped-ahead : (old new : TermStream) → new ≡ walks.stepped old.left → is_some new.current ≡ true
    → from_here new.current new.left ≡ old.left
stepped-ahead old new e h = go old.left new e h
  where
    go : (ps : List OrdTerm) (s : TermStream) → s ≡ walks.stepped ps → is_some s.current ≡ true → from_here s.current s.left ≡ ps
    go [] s e h = absurd (true≢false (sym h ∙ ap (λ (v : TermStream). is_some v.current) e))
    go (p ∷ ps) s e h = ap (λ (v : TermStream). from_here v.current v.left) e

-- ---- all walks

-- what walks are ahead by is where they stand and what they have left
from-here : (segment : ℕ) (s : TermStream)
    → in_segment segment (from_here s.current s.left)
    ≡ in_segment segment (here_of s.current) ++ in_segment segment s.left
from-here segment s = go s.current s.left
  where
    go : (c : Option OrdTerm) (ps : List OrdTerm)
        → in_segment segment (from_here c ps) ≡ in_segment segment (here_of c) ++ in_segment segment ps
    go None ps = refl
    go (Some p) ps = refl

-- four lists, the two in the middle in each other's place
middle-turned : {A : Type 0} (a b c d : List A) → IsPermutation ((a ++ b) ++ (c ++ d)) ((a ++ c) ++ (b ++ d))
middle-turned a b c d =
    let turned : IsPermutation ((b ++ c) ++ d) ((c ++ b) ++ d) = IsPermutation-append_left d _ _ (IsPermutation-append_comm b c) in
    let whole = IsPermutation-append_right a _ _ turned in
    rw (append_assoc a b (c ++ d), append_assoc a c (b ++ d), ← append_assoc b c d, ← append_assoc c b d) whole

-- the terms ahead are those where the walks stand and those that they have left, in some order
pub ahead-split : (ss : List TermsWithSegmentOrd) → IsPermutation (terms_ahead ss) (terms_here ss ++ terms_left ss)
ahead-split [] = IsPermutation-refl []
ahead-split (s ∷ ss) =
    let here = in_segment s.segment_ord (here_of s.terms.current) in
    let left = in_segment s.segment_ord s.terms.left in
    let first : in_segment s.segment_ord (from_here s.terms.current s.terms.left) ≡ here ++ left = from-here s.segment_ord s.terms in
    let rest : IsPermutation ((here ++ left) ++ terms_ahead ss) ((here ++ left) ++ (terms_here ss ++ terms_left ss))
    = IsPermutation-append_right (here ++ left) _ _ (ahead-split ss) in
    rw first (IsPermutation-trans _ _ _ rest (middle-turned here left (terms_here ss) (terms_left ss)))
