-- Lists of terms, and what is one of them.
use Rattle.std.proofs.Common.{◌≡◌, ◌⊎◌, ℕ, zero, suc, Bool, true, false, ◌||◌, List, [], ◌∷◌, ◌++◌, map, filter_map, bytes_eq, Some, slice_get, refl, sym, ap, ◌∙◌, subst, inl, inr}
use Rattle.std.specs.BTreeSet.{BTreeSet}
use Rattle.std.proofs.lemmas.Bool.{true≢false}
use Rattle.std.proofs.lemmas.Cmp.{nat_list_cmp_total}
use Rattle.std.proofs.lemmas.Map.Lookups.{exact_bytes, btree_set_from_contains}
use Rattle.col_model.specs.Table.{Cell, text, number}
use Rattle.col_model.specs.U64List.{joined_lists}
use Rattle.col_model.specs.Written.{text_of}
use Rattle.col_model.proofs.OrderingLaws.{bytes_eq-true, bytes_eq-same}
use Rattle.col_model.proofs.SoundTables.{among-has}
use Rattle.col_terms.specs.Building.{is_known}
use Rattle.col_terms.proofs.OrderedLemmas.{AreInOrder}
use Rattle.col_merge_texts.specs.Items.{IsAmong}
use Rattle.col_merge_texts.proofs.AmongLemmas.{in-left, in-right}

-- ---- lists of terms

-- a term that is there is one of the items
pub known-in : (ts : List (List ℕ)) (t : List ℕ) → is_known ts t ≡ true → IsAmong t ts
known-in [] t e = true≢false (sym e)
known-in (u ∷ ts) t e = go (bytes_eq t u) refl e (λ h. known-in ts t h)
  where
    go : (b : Bool) → bytes_eq t u ≡ b → (b || is_known ts t) ≡ true → (is_known ts t ≡ true → IsAmong t ts) → IsAmong t (u ∷ ts)
    go true f h more = inl (bytes_eq-true t u f)
    go false f h more = inr (more h)

-- a term that is among others is known to them
pub in-known : (ts : List (List ℕ)) (t : List ℕ) → IsAmong t ts → is_known ts t ≡ true
in-known [] t i = absurd i
in-known (u ∷ ts) t i = elim i [ inl e ↦ first e | inr rest ↦ later (in-known ts t rest) ]
  where
    first : t ≡ u → (bytes_eq t u || is_known ts t) ≡ true
    first e = let same : bytes_eq t u ≡ true = ap (λ v. bytes_eq v u) e ∙ bytes_eq-same u in rw same refl

    later : is_known ts t ≡ true → (bytes_eq t u || is_known ts t) ≡ true
    later h = go (bytes_eq t u)
      where
        go : (b : Bool) → (b || is_known ts t) ≡ true
        go true = refl
        go false = h

-- lists in order with the same terms are one
pub same-ordered : (xs ys : List (List ℕ)) → AreInOrder xs → AreInOrder ys → ((t : List ℕ) → is_known xs t ≡ is_known ys t) → xs ≡ ys
same-ordered xs ys s t same =
    let set_of : List (List ℕ) → BTreeSet (List ℕ) = λ zs. record { keys = zs } in
    btree_set_from_contains nat_list_cmp_total (set_of xs) (set_of ys) s t (λ q. sym (among-has q xs) ∙ same q ∙ among-has q ys) exact_bytes

-- ---- items of lists

-- an item of two joined lists is one of the first or of the second
pub in-either : {X : Type 0} (x : X) (xs ys : List X) → IsAmong x (xs ++ ys) → IsAmong x xs ⊎ IsAmong x ys
in-either x [] ys i = inr i
in-either x (z ∷ xs) ys i =
    elim i
    [ inl e ↦ inl (inl e) | inr rest ↦ elim (in-either x xs ys rest) [ inl a ↦ inl (inr a) | inr b ↦ inr b ] ]

-- an item that stands at a place is one of the list
pub get-in : {X : Type 0} (xs : List X) (i : ℕ) (x : X) → slice_get xs i ≡ Some x → IsAmong x xs
get-in [] i x e = cc
get-in (y ∷ xs) zero x e = let f : Some y ≡ Some x = e in inl cc
get-in (y ∷ xs) (suc i) x e = inr (get-in xs i x e)

-- an item of a list stands at some place
pub in-get : {X : Type 0} (xs : List X) (x : X) → IsAmong x xs → (i : ℕ) × (slice_get xs i ≡ Some x)
in-get [] x i = absurd i
in-get (y ∷ xs) x i = elim i [ inl e ↦ (0, ap Some (sym e)) | inr rest ↦ (let at = in-get xs x rest in (suc at.0, at.1)) ]

-- ---- items of what is made of lists

-- a text among the texts of cells is one of the cells
pub text-in : (cells : List Cell) (t : List ℕ) → IsAmong t (filter_map text_of cells) → IsAmong (text t) cells
text-in [] t i = absurd i
text-in (cell ∷ cells) t i = go cell refl i (λ j. text-in cells t j)
  where
    go : (c : Cell) → cell ≡ c → IsAmong t (filter_map text_of (c ∷ cells))
        → (IsAmong t (filter_map text_of cells) → IsAmong (text t) cells) → IsAmong (text t) (cell ∷ cells)
    go (text s) e j more = elim j [ inl f ↦ inl (ap text f ∙ sym e) | inr rest ↦ inr (more rest) ]
    go (number z) e j more = inr (more j)

-- a text among cells is one of their texts
pub in-text : (cells : List Cell) (t : List ℕ) → IsAmong (text t) cells → IsAmong t (filter_map text_of cells)
in-text [] t i = absurd i
in-text (cell ∷ cells) t i = elim i [ inl e ↦ here cell e | inr rest ↦ later cell (in-text cells t rest) ]
  where
    here : (c : Cell) → text t ≡ c → IsAmong t (filter_map text_of (c ∷ cells))
    here (text s) e = inl cc
    here (number z) e = cc

    later : (c : Cell) → IsAmong t (filter_map text_of cells) → IsAmong t (filter_map text_of (c ∷ cells))
    later (text s) j = inr j
    later (number z) j = j

-- y is the image of an item
pub record InMapped {X Y : Type 0} (f : X → Y) (y : Y) (xs : List X) : Type 0 where
  pub item : X
  pub there : IsAmong item xs
  pub is : y ≡ f item

-- what is among images is the image of an item
pub in-mapped : {X Y : Type 0} (f : X → Y) (y : Y) (xs : List X) → IsAmong y (map f xs) → InMapped f y xs
in-mapped f y [] i = absurd i
in-mapped f y (x ∷ xs) i = elim i [
  | inl e ↦ record { item = x; there = inl refl; is = e }
  | inr rest ↦ (let m = in-mapped f y xs rest in record { item = m.item; there = inr m.there; is = m.is })
]

-- y is in the list of an item
pub record InJoined {X Y : Type 0} (f : X → List Y) (y : Y) (xs : List X) : Type 0 where
  pub item : X
  pub there : IsAmong item xs
  pub held : IsAmong y (f item)

-- what is in joined lists is in the list of one item
pub in-joined : {X Y : Type 0} (f : X → List Y) (y : Y) (xs : List X) → IsAmong y (joined_lists (map f xs)) → InJoined f y xs
in-joined f y [] i = absurd i
in-joined f y (x ∷ xs) i = elim (in-either y (f x) (joined_lists (map f xs)) i) [
  | inl here ↦ record { item = x; there = inl refl; held = here }
  | inr later ↦ (let j = in-joined f y xs later in record { item = j.item; there = inr j.there; held = j.held })
]

-- what is in the list of one item is in the joined lists of all
pub joined-in : {X Y : Type 0} (f : X → List Y) (y : Y) (x : X) (xs : List X) → IsAmong x xs → IsAmong y (f x)
    → IsAmong y (joined_lists (map f xs))
joined-in f y x [] i h = absurd i
joined-in f y x (z ∷ xs) i h = elim i [
  | inl e ↦ in-left y (f z) (joined_lists (map f xs)) (subst (λ w. IsAmong y (f w)) e h)
  | inr rest ↦ in-right y (f z) (joined_lists (map f xs)) (joined-in f y x xs rest h)
]
