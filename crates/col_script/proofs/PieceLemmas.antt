-- The pieces of bytes that are cut at the first line feed.
use Rattle.std.proofs.Common.{◌≡◌, ℕ, ◌+◌, ◌-◌, ◌≤◌, Bool, true, false, cond, List, [], ◌∷◌, length, take, drop, Some, None, refl, sym, ◌∙◌, ap, subst, arith, length-drop}
use Rattle.std.specs.Prelude.{position, nat_lt}
use Rattle.std.specs.List.{slice_split, position_or_len}
use Rattle.std.proofs.lemmas.Bool.{ltb-true, ltb-false}
use Rattle.std.proofs.lemmas.List.{take_all}
use Rattle.std.proofs.lemmas.List.Splits.{slice_split_first, slice_split_none}
use Rattle.std.proofs.lemmas.List.Sums.{fails_before_first}

module _ (p : ℕ → Bool) (xs : List ℕ) where
  place : (b : Bool) (i : ℕ) → cond b (Some (position_or_len p xs)) None ≡ Some i → (b ≡ true) × (position_or_len p xs ≡ i)
  place true i e = (refl, cc)
  place false i e = cc

  -- bytes are cut at the first one that passes into what stands before it and the pieces behind it
  pub split-found : (i : ℕ) → position p xs ≡ Some i
      → slice_split p xs ≡ take i xs ∷ slice_split p (take (length xs - (i + 1)) (drop (i + 1) xs))
  split-found i e =
      let f = place (nat_lt (position_or_len p xs) (length xs)) i e in
      let P : ℕ → Type 0 = λ k. slice_split p xs ≡ take k xs ∷ slice_split p (drop (k + 1) xs) in
      let cut : slice_split p xs ≡ take i xs ∷ slice_split p (drop (i + 1) xs) =
      subst P f.1 (slice_split_first p xs 0 (ltb-true _ _ f.0)) in
      let all : take (length xs - (i + 1)) (drop (i + 1) xs) ≡ drop (i + 1) xs = take_all _ _ (omega (arith, length-drop (i + 1) xs)) in
      cut ∙ ap (λ ys. take i xs ∷ slice_split p ys) (sym all)

  -- bytes of which none passes are one piece
  pub split-none : position p xs ≡ None → slice_split p xs ≡ xs ∷ []
  split-none e = go (nat_lt (position_or_len p xs) (length xs)) refl e
    where
      go : (b : Bool) → nat_lt (position_or_len p xs) (length xs) ≡ b
          → cond b (Some (position_or_len p xs)) None ≡ None → slice_split p xs ≡ xs ∷ []
      go true t e = cc
      go false t e =
          let behind : length xs ≤ position_or_len p xs = ltb-false _ _ t in slice_split_none p xs
          (λ k d h. fails_before_first p xs k d (omega arith))
