-- Addresses by their codes.
use Rattle.std.proofs.Common.{◌≡◌, ℕ, zero, suc, ◌+◌, ◌-◌, ◌<◌, ◌≤◌, ◌==◌, Bool, cond, List, [], ◌∷◌, map, take, drop, length, get_or, slice_get, Some, sym, ◌∙◌, ap, subst, arith, add-one}
use Rattle.std.specs.List.{AllByRecursion, count_by}
use Rattle.std.specs.declared.cmp.Ordering.TheVariants.{Less}
use Rattle.std.proofs.lemmas.Bool.{lt-ltb}
use Rattle.std.proofs.lemmas.Bool.Decides.{nat_tests}
use Rattle.std.proofs.lemmas.List.Sums.{sum_by-cons}
use Rattle.col_model.proofs.SharedTypes.{same-some, some≢none}
use Rattle.col_model.proofs.ListLaws.{map-map}
use Rattle.col_model.proofs.StatsLaws.{all_by}
use Rattle.col_model.specs.AddressList.{code_count, coded_number}
use Rattle.col_compact.specs.Coded.{NumbersRise}
use Rattle.col_facet.specs.Cells.{cell_cmp}
use Rattle.col_facet.specs.Facets.{facets_of}
use Rattle.col_facet.specs.Tables.{AreRising, AreCodesIn, IsPlaced, address_at, counted_from}
use Rattle.col_facet.specs.declared.facet_cell.FacetCell.{FacetCell}
use Rattle.col_facet.specs.declared.facet_cell.FacetCell.TheVariants.{Addr}
use Rattle.col_facet.proofs.PlaceLemmas.{table-placed}

-- the cell of a place below the number of codes
at-code : (rs : List (ℕ × ℕ)) (n : ℕ) → n < code_count rs → address_at rs n ≡ Addr (coded_number rs (suc n))
at-code rs n h = ap (λ b. Addr (cond b (coded_number rs (suc n)) 0)) (lt-ltb n (code_count rs) h)

-- lesser addresses come first
lesser : (a b : ℕ) → a < b → cell_cmp (Addr a) (Addr b) ≡ Less
lesser a b h = grind (arith, nat_tests)

-- the cells of places ascend
addresses-rise : (rs : List (ℕ × ℕ)) → NumbersRise rs → AreRising (address_at rs) (code_count rs)
addresses-rise rs up i j h l =
    subst (λ (p : FacetCell). cell_cmp p (address_at rs j) ≡ Less) (sym (at-code rs i (omega (arith, h, l))))
    (subst (λ (q : FacetCell). cell_cmp (Addr (coded_number rs (suc i))) q ≡ Less) (sym (at-code rs j l))
    (lesser (coded_number rs (suc i)) (coded_number rs (suc j)) (up (suc i) (suc j) (omega arith) (omega (arith, h)) (omega (arith, l)))))

-- each code stands at its place
placed : (rs : List (ℕ × ℕ)) (k : ℕ) → (1 ≤ k) × (k ≤ code_count rs)
    → IsPlaced (λ n. n) (λ n. Addr (coded_number rs n)) (address_at rs) 1 (code_count rs) k
placed rs k h =
    let behind : suc (k - 1) ≡ k = omega (arith, h.0) in
    record {
      from = h.0;
      below = omega (arith, h.1);
      stands = sym (at-code rs (k - 1) (omega (arith, h.0, h.1)) ∙ ap (λ n. Addr (coded_number rs n)) behind);
    }

-- a table of how often each code stands gives the facets of the addresses
pub codes-counted : (rs : List (ℕ × ℕ)) (codes counts : List ℕ) (n : ℕ) → NumbersRise rs → AreCodesIn rs codes
    → length counts ≡ n → n ≡ code_count rs
    → ((i : ℕ) → i < n → get_or counts i 0 ≡ count_by (λ x. x == 1 + i) codes)
    → counted_from (address_at rs) 0 counts ≡ facets_of (map (λ x. Addr x) (map (coded_number rs) codes))
codes-counted rs codes counts n up are size all told =
    table-placed (λ x. x) (λ x. Addr (coded_number rs x)) (address_at rs) 1 (code_count rs) codes counts (addresses-rise rs up)
    (all_by (placed rs) codes are) (size ∙ all) (λ i h. told i (omega (arith, h, all)))
    ∙ ap facets_of (sym (map-map (λ x. Addr x) (coded_number rs) codes))

-- the item at a place is what is taken next
pub taken-one : (xs : List ℕ) (at x : ℕ) → slice_get xs at ≡ Some x → x ∷ [] ≡ take (at + 1 - at) (drop at xs)
taken-one xs at x h = let one : 1 ≡ at + 1 - at = omega arith in go xs at h ∙ ap (λ n. take n (drop at xs)) one
  where
    go : (ys : List ℕ) (i : ℕ) → slice_get ys i ≡ Some x → x ∷ [] ≡ take 1 (drop i ys)
    go [] i e = absurd (some≢none x (sym e))
    go (y ∷ ys) zero e = ap (λ z. z ∷ []) (sym (same-some y x e))
    go (y ∷ ys) (suc i) e = go ys i e

-- what holds of the items before a place and of the one there holds of those before the next
pub one-more : (P : ℕ → Type 0) (xs : List ℕ) (at x : ℕ) → slice_get xs at ≡ Some x → P x → AllByRecursion P (take at xs)
    → AllByRecursion P (take (at + 1) xs)
one-more P xs at x h p all = subst (λ n. AllByRecursion P (take n xs)) (sym (add-one at)) (go xs at h all)
  where
    go : (ys : List ℕ) (i : ℕ) → slice_get ys i ≡ Some x → AllByRecursion P (take i ys) → AllByRecursion P (take (suc i) ys)
    go [] i e all = tt
    go (y ∷ ys) zero e all = (subst P (sym (same-some y x e)) p, tt)
    go (y ∷ ys) (suc i) e all = (all.0, go ys i e all.1)

-- an item alone counts where it passes
pub one-count : (test : ℕ → Bool) (x : ℕ) → cond (test x) 1 0 ≡ count_by test (x ∷ [])
one-count test x = more (cond (test x) 1 0) ∙ sym (sum_by-cons (λ (y : ℕ). cond (test y) 1 0) x [])
  where
    more : (n : ℕ) → n ≡ n + 0
    more n = omega arith
