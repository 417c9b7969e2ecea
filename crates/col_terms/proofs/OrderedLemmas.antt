-- Terms put in order.
use Rattle.std.proofs.Common.{◌≡◌, ℕ, true, false, List, [], ◌∷◌, bytes_eq, refl, sym, ap, ◌∙◌}
use Rattle.std.specs.declared.cmp.Ordering.{Ordering}
use Rattle.std.specs.declared.cmp.Ordering.TheVariants.{Less, Equal, Greater}
use Rattle.std.specs.Ordering.{nat_cmp, is_eq, match_ordering}
use Rattle.std.specs.Cmp.Lexicographic.{slice_cmp}
use Rattle.std.specs.List.{list_any, AllByRecursion, IsDistinct}
use Rattle.std.specs.List.Sorted.{IsPermutation, IsStrictlySortedBy}
use Rattle.std.specs.BTreeSet.{BTreeSet}
use Rattle.std.proofs.lemmas.Bool.{or_parts, true≢false}
use Rattle.std.proofs.lemmas.Cmp.{nat_list_cmp_total}
use Rattle.std.proofs.lemmas.Map.Keys.{IsDistinct-head, IsDistinct-tail}
use Rattle.std.proofs.lemmas.Map.Lookups.{exact_bytes, btree_set_from_contains}
use Rattle.std.proofs.lemmas.Map.Text.{is_eq-slice_cmp}
use Rattle.std.proofs.lemmas.List.Sorted.{IsPermutation-refl, IsPermutation-sym, IsPermutation-trans, IsPermutation-cons, IsPermutation-middle, list_any-IsPermutation}
use Rattle.col_common.specs.Ascending.{is_ascending}
use Rattle.col_model.specs.Sorted.{with_item, distinct_items}
use Rattle.col_terms.specs.Building.{ordered}
use Rattle.col_model.proofs.DistinctLaws.{sorted-with_item}

-- the order of terms
abbrev by_bytes : List ℕ → List ℕ → Ordering
by_bytes = slice_cmp nat_cmp

-- the terms strictly ascend
abbrev pub AreInOrder : List (List ℕ) → Type 0
AreInOrder ts = IsStrictlySortedBy (slice_cmp nat_cmp) ts

-- ---- one more term

-- terms put in order strictly ascend
pub in_order-ordered : (ts : List (List ℕ)) → AreInOrder (ordered ts)
unfolding distinct_items IsStrictlySortedBy
in_order-ordered [] = tt
in_order-ordered (t ∷ ts) = sorted-with_item by_bytes nat_list_cmp_total t (ordered ts) (in_order-ordered ts)

-- the test of neighbours
pub is_ascending-in_order : (ts : List (List ℕ)) → AreInOrder ts → is_ascending ts ≡ true
unfolding IsStrictlySortedBy
is_ascending-in_order [] s = refl
is_ascending-in_order (x ∷ []) s = refl
is_ascending-in_order (x ∷ y ∷ ts) s = rw (s.0.0, is_ascending-in_order (y ∷ ts) s.1) refl

-- ---- terms that differ

permutation-with_item : (x : List ℕ) (zs : List (List ℕ)) → list_any (bytes_eq x) zs ≡ false
    → IsPermutation (x ∷ zs) (with_item by_bytes x zs)
permutation-with_item x [] new = IsPermutation-refl (x ∷ [])
permutation-with_item x (z ∷ zs) new =
    go (by_bytes x z) refl (permutation-with_item x zs (or_parts (bytes_eq x z) (list_any (bytes_eq x) zs) new).1)
  where
    apart : bytes_eq x z ≡ false
    apart = (or_parts (bytes_eq x z) (list_any (bytes_eq x) zs) new).0

    go : (o : Ordering) → by_bytes x z ≡ o → IsPermutation (x ∷ zs) (with_item by_bytes x zs)
        → IsPermutation (x ∷ z ∷ zs) (match_ordering o (x ∷ z ∷ zs) (z ∷ zs) (z ∷ with_item by_bytes x zs))
    go Less e rest = IsPermutation-refl (x ∷ z ∷ zs)
    go Equal e rest = absurd (true≢false (sym (ap is_eq e) ∙ is_eq-slice_cmp x z ∙ apart))
    go Greater e rest =
        IsPermutation-trans (x ∷ z ∷ zs) (z ∷ x ∷ zs) (z ∷ with_item by_bytes x zs)
        (IsPermutation-sym (z ∷ x ∷ zs) (x ∷ z ∷ zs) (IsPermutation-middle (z ∷ []) x zs))
        (IsPermutation-cons z (x ∷ zs) (with_item by_bytes x zs) rest)

-- a term that differs from others isn't among them
absent : (x : List ℕ) (ts : List (List ℕ)) → AllByRecursion (λ y. bytes_eq x y ≡ false) ts → list_any (bytes_eq x) ts ≡ false
absent x [] all = refl
absent x (y ∷ ts) all = rw (all.0, absent x ts all.1) refl

-- terms that differ are the same terms put in order
pub permutation-ordered : (ts : List (List ℕ)) → IsDistinct bytes_eq ts → IsPermutation ts (ordered ts)
unfolding distinct_items
permutation-ordered [] d = IsPermutation-refl []
permutation-ordered (t ∷ ts) d =
    let rest = permutation-ordered ts (IsDistinct-tail bytes_eq t ts d) in
    let new = absent t ts (IsDistinct-head bytes_eq t ts d) in
    IsPermutation-trans (t ∷ ts) (t ∷ ordered ts) (with_item by_bytes t (ordered ts))
    (IsPermutation-cons t ts (ordered ts) rest)
    (permutation-with_item t (ordered ts) (sym (list_any-IsPermutation (bytes_eq t) ts (ordered ts) rest) ∙ new))

-- two lists in order with the same terms are one
pub same_in_order : (xs ys : List (List ℕ)) → AreInOrder xs → AreInOrder ys → IsPermutation xs ys → xs ≡ ys
same_in_order xs ys s t p =
    let set_of : List (List ℕ) → BTreeSet (List ℕ) = λ zs. record { keys = zs } in
    btree_set_from_contains nat_list_cmp_total (set_of xs) (set_of ys) s t
    (λ q. list_any-IsPermutation (λ k. is_eq (slice_cmp nat_cmp q k)) xs ys p) exact_bytes
