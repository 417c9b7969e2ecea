-- Items of a list at a place, and those behind it.
use Rattle.std.proofs.Common.{◌≡◌, ◌+◌, ◌<◌, ◌≤◌, ◌∙◌, ℕ, List, [], ◌∷◌, ◌++◌, map, drop, length, get_or, refl, sym, ap, append-nil, append_assoc}
use Rattle.std.specs.List.{drop-map}
use Rattle.std.proofs.lemmas.List.{drop_all, drop_more, map-append}
use Rattle.std.proofs.lemmas.Option.{slice_get_read, get_or_from_slice_get}

-- what was read at a place, under any default
pub read_at : {A : Type 0} (xs : List A) (i : ℕ) (x d : A) → i < length xs → x ≡ get_or xs i x → get_or xs i d ≡ x
read_at xs i x d within is = get_or_from_slice_get xs i x d (slice_get_read xs (length xs) i x refl within is)

-- the images of what is left, with that of the item at the place in front
pub left_mapped : {A B : Type 0} (f : A → B) (xs : List A) (i : ℕ) (x : A) → i < length xs → x ≡ get_or xs i x
    → drop i (map f xs) ≡ f x ∷ drop (i + 1) (map f xs)
left_mapped f xs i x within is =
    drop-map f i xs ∙ ap (map f) (drop_more xs i x within) ∙ ap (λ y. f y ∷ map f (drop (i + 1) xs)) (sym is)
    ∙ ap (λ ys. f x ∷ ys) (sym (drop-map f (i + 1) xs))

-- Of the items before a place images were made, one by one, which with those of what is left are those of all.
module _ {A B C : Type 0} (g : A → C) (f : B → C) (xs : List B) where
  abbrev pub AreMade : ℕ → List A → Type 0
  AreMade i made = map g made ++ map f (drop i xs) ≡ map f xs

  -- one more
  pub made_more : (i : ℕ) (made : List A) (a : A) (x : B) → i < length xs → x ≡ get_or xs i x → g a ≡ f x → AreMade i made
      → AreMade (i + 1) (made ++ a ∷ [])
  made_more i made a x within is same h =
      ap (λ l. l ++ map f (drop (i + 1) xs)) (map-append g made (a ∷ []))
      ∙ append_assoc (map g made) (g a ∷ []) (map f (drop (i + 1) xs))
      ∙ ap (λ y. map g made ++ y ∷ map f (drop (i + 1) xs)) (same ∙ ap f is)
      ∙ ap (λ l. map g made ++ l) (sym (ap (map f) (drop_more xs i x within))) ∙ h

  -- all
  pub made_all : (i : ℕ) (made : List A) → length xs ≤ i → AreMade i made → map g made ≡ map f xs
  made_all i made past h =
      sym (append-nil (map g made)) ∙ ap (λ l. map g made ++ map f l) (sym (drop_all i xs past)) ∙ h
