-- Start offsets without repeats.
use Rattle.std.proofs.Common.{◌≡◌, ℕ, ◌+◌, ◌-◌, nat_lt, nat_le, true, cond, List, [], ◌∷◌, refl, sym, ap, ◌∙◌, inl, inr, arith}
use Rattle.std.proofs.lemmas.Bool.{and_parts, ltb-true, leb-true, eq-eqb, ne_eqb, cases_eq, true≢false}
use Rattle.col_common.specs.Ascending.{is_rising, is_never_falling, differences}
use Rattle.col_model.specs.Positions.{starts_after, starts_of}
use Rattle.col_index.specs.Offsets.{changes_behind, without_repeats, AreOldOffsets}
use Rattle.col_index.proofs.IndexedLaws.{starts-rise}
use Rattle.col_index.proofs.StartLemmas.{offsets-zeroth}

-- behind a number, a rising list has no repeats
rising-changes : (x : ℕ) (xs : List ℕ) → is_rising (x ∷ xs) ≡ true → changes_behind x xs ≡ xs
rising-changes x [] e = refl
rising-changes x (y ∷ zs) e =
    let parts = and_parts (nat_lt x y) (is_rising (y ∷ zs)) e in
    let up = ltb-true x y parts.0 in
    ap (λ b. cond b (changes_behind y zs) (y ∷ changes_behind y zs)) (ne_eqb y x (λ f. omega arith))
    ∙ ap (λ more. y ∷ more) (rising-changes y zs parts.1)

-- a rising list has no repeats
pub rising-without_repeats : (xs : List ℕ) → is_rising xs ≡ true → without_repeats xs ≡ xs
rising-without_repeats [] e = refl
rising-without_repeats (x ∷ xs) e = ap (λ more. x ∷ more) (rising-changes x xs e)

-- the starts of rows with a value have no repeats
pub starts-without_repeats : (cs : List ℕ) → without_repeats (starts_of cs) ≡ starts_of cs
starts-without_repeats cs = rising-without_repeats (starts_of cs) (starts-rise cs)

-- rows that have what offsets are apart start where these change
changes-starts : (x : ℕ) (xs : List ℕ) → is_never_falling (x ∷ xs) ≡ true
    → x ∷ changes_behind x xs ≡ starts_after x (differences (x ∷ xs))
changes-starts x [] e = refl
changes-starts x (y ∷ zs) e =
    let parts = and_parts (nat_le x y) (is_never_falling (y ∷ zs)) e in
    let up = leb-true x y parts.0 in
    let place : y ≡ x + (y - x) = omega arith in
    let more : y ∷ changes_behind y zs ≡ starts_after (x + (y - x)) (differences (y ∷ zs)) =
    changes-starts y zs parts.1 ∙ ap (λ n. starts_after n (differences (y ∷ zs))) place in
    elim (cases_eq y x) [
      | inl same ↦
          ap (λ b. x ∷ cond b (changes_behind y zs) (y ∷ changes_behind y zs)) (eq-eqb y x same)
          ∙ ap (λ n. n ∷ changes_behind y zs) (sym same)
          ∙ more
          ∙ sym (ap (λ b. cond b (starts_after (x + (y - x)) (differences (y ∷ zs)))
          (x ∷ starts_after (x + (y - x)) (differences (y ∷ zs)))) (eq-eqb (y - x) 0 (omega arith)))
      | inr other ↦
          ap (λ b. x ∷ cond b (changes_behind y zs) (y ∷ changes_behind y zs)) (ne_eqb y x other)
          ∙ ap (λ ss. x ∷ ss) more
          ∙ sym (ap (λ b. cond b (starts_after (x + (y - x)) (differences (y ∷ zs)))
          (x ∷ starts_after (x + (y - x)) (differences (y ∷ zs)))) (ne_eqb (y - x) 0 (λ f. other (omega arith))))
    ]

-- offsets of all rows, without repeats, are the starts of the rows with a value
pub old-without_repeats : (xs : List ℕ) → AreOldOffsets xs → without_repeats xs ≡ starts_of (differences xs)
unfolding starts_of
old-without_repeats [] old = absurd (true≢false (sym old.offsets))
old-without_repeats (x ∷ xs) old =
    changes-starts x xs old.never_fall ∙ ap (λ n. starts_after n (differences (x ∷ xs))) (offsets-zeroth (x ∷ xs) old.offsets)
