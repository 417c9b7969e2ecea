-- Which places are left while the terms of columns are noted.
use Rattle.std.proofs.Common.{◌≡◌, ◌≢◌, ◌⊎◌, ℕ, zero, suc, ◌+◌, ◌<◌, ◌≤◌, eqb, Bool, true, false, List, [], ◌∷◌, length, take, get_or, is_some, unwrap_or, option_map, Some, None, slice_get, refl, sym, ap, ◌∙◌, subst, inl, inr, arith}
use Rattle.std.specs.Prelude.{option_and_then}
use Rattle.std.specs.List.{AllByRecursion}
use Rattle.std.proofs.lemmas.Bool.{true≢false, eqb-true, eq-eqb}
use Rattle.std.proofs.lemmas.List.{take_more}
use Rattle.std.proofs.lemmas.Option.{slice_get-map, slice_get-get_or, slice_get_within}
use Rattle.col_model.proofs.ListLaws.{all_push}
use Rattle.col_text.specs.Texts.{Texts}
use Rattle.col_merge_texts.specs.Items.{terms_of, item_at}
use Rattle.col_merge_texts.specs.Taking.{Place, IsPlace, IsFrom}
use Rattle.col_merge_texts.proofs.NoteLemmas.{some-item}

-- ---- the terms of a column

-- the item at a place is the term of a column
pub item-of : (columns : List Texts) (segment ord : ℕ) (c : Texts) → slice_get columns segment ≡ Some c
    → item_at (terms_of columns) (segment, ord) ≡ slice_get c.terms ord
item-of columns segment ord c e =
    ap (option_and_then (λ ts. slice_get ts ord))
    (slice_get-map (λ (d : Texts). d.terms) columns segment ∙ ap (option_map (λ (d : Texts). d.terms)) e)

-- the term at a place is the one that the column of the segment has at the ordinal
pub place-at : (columns : List Texts) (segment ord : ℕ) (c : Texts) → slice_get columns segment ≡ Some c
    → ord < length c.terms → item_at (terms_of columns) (segment, ord) ≡ Some (unwrap_or (slice_get c.terms ord) [])
place-at columns segment ord c e low =
    let there = slice_get-get_or c.terms ord [] low in
    item-of columns segment ord c e ∙ there ∙ ap Some (sym (ap (λ o. unwrap_or o []) there))

-- and a place lies within the column's terms
pub place-below : (columns : List Texts) (segment ord : ℕ) (c : Texts) → slice_get columns segment ≡ Some c
    → IsPlace columns (segment, ord) → ord < length c.terms
place-below columns segment ord c e there =
    let item = some-item (item_at (terms_of columns) (segment, ord)) there in
    slice_get_within c.terms ord item.0 (sym (item-of columns segment ord c e) ∙ item.1)

-- at first all places are left
pub from-all : (q : Place) → IsFrom 0 0 q
from-all q = go q.0 refl
  where
    go : (s : ℕ) → q.0 ≡ s → IsFrom 0 0 q
    go zero e = inr (e, omega arith)
    go (suc s) e = inl (omega (arith, e))

-- a place that is left is this one, or is left behind it
pub from-more : (segment ord : ℕ) (q : Place) → IsFrom segment ord q → (q ≡ (segment, ord)) ⊎ IsFrom segment (ord + 1) q
from-more segment ord q f = elim f [ inl later ↦ inr (inl later) | inr here ↦ go here (eqb q.1 ord) refl ]
  where
    go : (q.0 ≡ segment) × (ord ≤ q.1) → (b : Bool) → eqb q.1 ord ≡ b → (q ≡ (segment, ord)) ⊎ IsFrom segment (ord + 1) q
    go here true e = let same = eqb-true q.1 ord e in inl (λ i. (here.0 i, same i))
    go here false e =
        let apart : q.1 ≢ ord = (λ s. true≢false (sym (eq-eqb q.1 ord s) ∙ e)) in
        inr (inr (here.0, omega (arith, apart, here.1)))

none-past : {X : Type 0} (xs : List X) (i : ℕ) → length xs ≤ i → slice_get xs i ≡ None
none-past [] i h = refl
none-past (x ∷ xs) zero h = absurd (omega (arith, h))
none-past (x ∷ xs) (suc i) h = none-past xs i (omega (arith, h))

-- behind its last ordinal a column has no place
pub from-next : (columns : List Texts) (segment n : ℕ) (c : Texts) → slice_get columns segment ≡ Some c
    → length c.terms ≤ n → (q : Place) → IsPlace columns q → IsFrom segment n q → IsFrom (segment + 1) 0 q
from-next columns segment n c e end q there f = elim f [ inl later ↦ go later (eqb q.0 (segment + 1)) refl | inr here ↦ absurd (past here) ]
  where
    go : segment < q.0 → (b : Bool) → eqb q.0 (segment + 1) ≡ b → IsFrom (segment + 1) 0 q
    go later true t = inr (eqb-true q.0 (segment + 1) t, omega arith)
    go later false t =
        let apart : q.0 ≢ segment + 1 = (λ s. true≢false (sym (eq-eqb q.0 (segment + 1) s) ∙ t)) in
        inl (omega (arith, apart, later))

    past : (q.0 ≡ segment) × (n ≤ q.1) → ⊥
    past here =
        let own : item_at (terms_of columns) (q.0, q.1) ≡ slice_get c.terms q.1 =
        item-of columns q.0 q.1 c (ap (slice_get columns) here.0 ∙ e) in
        let none : item_at (terms_of columns) q ≡ None = own ∙ none-past c.terms q.1 (omega (arith, end, here.1)) in
        true≢false (sym there ∙ ap is_some none)

-- ---- a slice of columns

-- what holds of one item more
pub all-more : {X : Type 0} (P : X → Type 0) (xs : List X) (n : ℕ) (x : X) → n < length xs → x ≡ get_or xs n x
    → AllByRecursion P (take n xs) → P x → AllByRecursion P (take (n + 1) xs)
all-more P xs n x low is all last =
    subst (AllByRecursion P) (sym (take_more xs n x low)) (all_push P (take n xs) (get_or xs n x) all (subst P is last))
