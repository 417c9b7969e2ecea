-- Places of terms among all terms.
use Rattle.std.proofs.Common.{◌≡◌, ◌<◌, ℕ, zero, suc, List, [], ◌∷◌, length, map, get_or, Bool, true, false, not, Some, refl, sym, ◌∙◌, ap, arith}
use Rattle.std.specs.Prelude.{nat_lt, slice_get, slice_index_or, bytes_eq, ◌||◌}
use Rattle.std.specs.List.{list_any}
use Rattle.std.specs.declared.cmp.Ordering.TheVariants.{Less, Greater}
use Rattle.std.specs.Ordering.{nat_cmp, is_gt, is_eq, ordering_reverse}
use Rattle.std.specs.Cmp.{tied_itself}
use Rattle.std.specs.Cmp.Lexicographic.{slice_cmp}
use Rattle.std.proofs.lemmas.Bool.{or_right}
use Rattle.std.proofs.lemmas.Bool.Decides.{nat_tests}
use Rattle.std.proofs.lemmas.Cmp.{nat_cmp_total, nat_list_cmp_total}
use Rattle.std.proofs.lemmas.List.{get_or-map}
use Rattle.std.proofs.lemmas.List.Folds.{list_any-append}
use Rattle.std.proofs.lemmas.Map.Text.{is_eq-slice_cmp}
use Rattle.std.proofs.lemmas.Option.{get_or_from_slice_get, slice_get_within, slice_get-get_or, unwrap_or-slice_get}
use Rattle.col_common.specs.Ascending.{is_ascending}
use Rattle.col_model.specs.Column.{term_cell}
use Rattle.col_model.specs.Lookup.{is_at_most}
use Rattle.col_model.specs.Sorted.{distinct_items}
use Rattle.col_model.specs.Table.{Cell, number, text}
use Rattle.col_model.specs.U64List.{joined_lists}
use Rattle.col_model.proofs.DistinctLaws.{has-distinct}
use Rattle.col_terms.specs.Building.{is_known, id_of}
use Rattle.col_terms.proofs.PlaceLemmas.{place_below, term_at_place}
use Rattle.col_terms.proofs.SearchLemmas.{pairwise}
use Rattle.col_sort.proofs.CellLemmas.{Compare}

-- ---- texts compare as their places

-- the place of a text among some terms
unfoldable pub IsPlace : List (List ℕ) → Cell → ℕ → Type 0
IsPlace all (number z) k = ⊥
IsPlace all (text s) k = slice_get all k ≡ Some s

at_most-places : (all : List (List ℕ)) → is_ascending all ≡ true → (a b : List ℕ) (i j : ℕ) → slice_get all i ≡ Some a
    → slice_get all j ≡ Some b → not (is_gt (slice_cmp nat_cmp a b)) ≡ not (is_gt (nat_cmp i j))
at_most-places all up a b i j f g = by (nat_lt i j) (nat_lt j i) refl refl
  where
    first : get_or all i [] ≡ a
    first = get_or_from_slice_get all i a [] f

    second : get_or all j [] ≡ b
    second = get_or_from_slice_get all j b [] g

    by : (u v : Bool) → nat_lt i j ≡ u → nat_lt j i ≡ v → not (is_gt (slice_cmp nat_cmp a b)) ≡ not (is_gt (nat_cmp i j))
    by true v e h =
        let less : i < j = grind arith in
        let cmp : slice_cmp nat_cmp a b ≡ Less = (λ k. slice_cmp nat_cmp (sym first k) (sym second k))
        ∙ pairwise all i j up less (slice_get_within all j b g) in
        let low : nat_cmp i j ≡ Less = grind (arith, nat_tests) in
        ap (λ o. not (is_gt o)) (cmp ∙ sym low)
    by false true e h =
        let less : j < i = grind arith in
        let cmp : slice_cmp nat_cmp b a ≡ Less = (λ k. slice_cmp nat_cmp (sym second k) (sym first k))
        ∙ pairwise all j i up less (slice_get_within all i a f) in
        let high : nat_cmp i j ≡ Greater = grind (arith, nat_tests) in
        ap (λ o. not (is_gt o)) (nat_list_cmp_total.antisymm a b ∙ ap ordering_reverse cmp ∙ sym high)
    by false false e h =
        let same : i ≡ j = grind arith in
        let one : a ≡ b = sym first ∙ ap (λ k. get_or all k []) same ∙ second in
        let tie : nat_cmp i j ≡ nat_cmp j j = ap (λ k. nat_cmp k j) same in
        ap (λ o. not (is_gt o)) (ap (λ s. slice_cmp nat_cmp s b) one ∙ tied_itself nat_list_cmp_total b
        ∙ sym (tie ∙ tied_itself nat_cmp_total j))

places-compare : (all : List (List ℕ)) → is_ascending all ≡ true → (a b : Cell) (k l : ℕ) → IsPlace all a k → IsPlace all b l
    → is_at_most a b ≡ not (is_gt (nat_cmp k l))
unfolding IsPlace
places-compare all up (number z) b k l h g = absurd h
places-compare all up (text a) (number z) k l h g = absurd g
places-compare all up (text a) (text b) k l h g = at_most-places all up a b k l h g

pub texts-compare : (all : List (List ℕ)) → is_ascending all ≡ true → Compare nat_cmp (IsPlace all)
texts-compare all up = record { at_most = places-compare all up }

-- ---- each term has its place

any-alike : {A : Type 0} (p q : A → Bool) → ((x : A) → p x ≡ q x) → (xs : List A) → list_any p xs ≡ list_any q xs
any-alike p q e [] = refl
any-alike p q e (x ∷ xs) = λ i. e x i || any-alike p q e xs i

any-at : (s : List ℕ) (ts : List (List ℕ)) (v : ℕ) → slice_get ts v ≡ Some s → list_any (bytes_eq s) ts ≡ true
any-at s [] v e = absurd cc
any-at s (t ∷ ts) zero e = let same : t ≡ s = cc in ap (λ b. b || list_any (bytes_eq s) ts) (ap (bytes_eq s) same ∙ own s)
  where
    own : (s : List ℕ) → bytes_eq s s ≡ true
    own s = sym (is_eq-slice_cmp s s) ∙ ap is_eq (tied_itself nat_list_cmp_total s)
any-at s (t ∷ ts) (suc v) e = or_right (bytes_eq s t) (list_any (bytes_eq s) ts) (any-at s ts v e)

any-joined : (s : List ℕ) (tss : List (List (List ℕ))) (j : ℕ) (ts : List (List ℕ)) → slice_get tss j ≡ Some ts
    → list_any (bytes_eq s) ts ≡ true → list_any (bytes_eq s) (joined_lists tss) ≡ true
any-joined s [] j ts e h = absurd cc
any-joined s (us ∷ tss) zero ts e h =
    let same : us ≡ ts = cc in
    list_any-append (bytes_eq s) us (joined_lists tss)
    ∙ ap (λ b. b || list_any (bytes_eq s) (joined_lists tss)) (ap (list_any (bytes_eq s)) same ∙ h)
any-joined s (us ∷ tss) (suc j) ts e h =
    list_any-append (bytes_eq s) us (joined_lists tss)
    ∙ or_right (list_any (bytes_eq s) us) (list_any (bytes_eq s) (joined_lists tss)) (any-joined s tss j ts e h)

-- the terms of lists in order, each once
abbrev pub in_one_order : List (List (List ℕ)) → List (List ℕ)
in_one_order tss = distinct_items (slice_cmp nat_cmp) (joined_lists tss)

known-term : (tss : List (List (List ℕ))) (j v : ℕ) (ts : List (List ℕ)) (s : List ℕ) → slice_get tss j ≡ Some ts
    → slice_get ts v ≡ Some s → is_known (in_one_order tss) s ≡ true
known-term tss j v ts s e f =
    let terms = joined_lists tss in
    any-alike (bytes_eq s) (λ t. is_eq (slice_cmp nat_cmp s t)) (λ t. sym (is_eq-slice_cmp s t)) (in_one_order tss)
    ∙ has-distinct (slice_cmp nat_cmp) nat_list_cmp_total s terms
    ∙ any-alike (λ t. is_eq (slice_cmp nat_cmp s t)) (bytes_eq s) (λ t. is_eq-slice_cmp s t) terms
    ∙ any-joined s tss j ts e (any-at s ts v f)

-- a term's place among all terms
pub term-place : (tss : List (List (List ℕ))) (j v : ℕ) (ts : List (List ℕ)) → slice_get tss j ≡ Some ts → v < length ts
    → IsPlace (in_one_order tss) (term_cell ts v) (slice_index_or (map (id_of (in_one_order tss)) ts) v 0)
unfolding IsPlace
term-place tss j v ts e h =
    let all = in_one_order tss in
    let s = get_or ts v [] in
    let at = slice_get-get_or ts v [] h in
    let known = known-term tss j v ts s e at in
    ap (slice_get all) (get_or-map (id_of all) ts v [] 0 h)
    ∙ slice_get-get_or all (id_of all s) [] (place_below all s known)
    ∙ ap Some (term_at_place all s known ∙ sym (unwrap_or-slice_get ts v []))
