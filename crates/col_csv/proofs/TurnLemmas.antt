-- How many turns the kit's reader takes to find the records of a text.
use Rattle.std.proofs.Common.{◌≡◌, ℕ, zero, suc, ◌+◌, ◌≤◌, List, [], ◌∷◌, length, Some, None, refl, sym, ◌∙◌, ap, ap₂, subst, arith}
use Rattle.std.proofs.lemmas.Option.{none-some}
use Rattle.csv.specs.Machine.{Read, next_record}
use Rattle.csv.specs.Reading.{AreRecords, Reached, records, records_from, records_next}
use Rattle.csv.specs.declared.parser.Config.{Config}
use Rattle.csv.specs.declared.parser.State.{State}
use Rattle.csv.specs.declared.parser.State.TheVariants as st
use Rattle.col_csv.proofs.RecordLemmas.{last-read, next-shorter}

module _ (cfg : Config) where
  -- as many turns as records find those that lead to the end of a text
  reached-found : (n : ℕ) (s : State) (xs : List ℕ) (rs : List (List (List ℕ))) (s2 : State) (ys : List ℕ)
      → Reached cfg s xs rs s2 ys → next_record cfg s2 [] [] ys ≡ None → length rs ≤ n → records_from cfg n s xs ≡ rs
  unfolding Reached records_from
  reached-found zero s xs [] s2 ys r e h = refl
  reached-found zero s xs (f ∷ rs) s2 ys r e h = absurd (omega arith)
  reached-found (suc n) s xs [] s2 ys r e h =
      ap (records_next (records_from cfg n)) ((λ i. next_record cfg (r.0 i) [] [] (r.1 i)) ∙ e)
  reached-found (suc n) s xs (f ∷ rs) s2 ys r e h =
      ap (records_next (records_from cfg n)) r.1
      ∙ ap₂ (λ (a : List (List ℕ)) b. a ∷ b) (sym r.2) (reached-found n r.0.1 r.0.2 rs s2 ys r.3 e (omega arith))

  -- a text has at most one record more than bytes
  reached-few : (s : State) (xs : List ℕ) (rs : List (List (List ℕ))) (s2 : State) (ys : List ℕ)
      → Reached cfg s xs rs s2 ys → length rs ≤ length xs + 1
  unfolding Reached next_record
  reached-few s xs [] s2 ys r = omega arith
  reached-few s [] (f ∷ []) s2 ys r = omega arith
  reached-few s [] (f ∷ g ∷ rs) s2 ys r =
      absurd (none-some r.3.0 (subst (λ (p : Read). next_record cfg p.1 [] [] p.2 ≡ Some r.3.0)
      (sym (last-read cfg s [] [] r.0 r.1)) r.3.1))
  reached-few s (c ∷ xs) (f ∷ rs) s2 ys r =
      let a = next-shorter cfg s c xs r.0 r.1 in
      let later = reached-few r.0.1 r.0.2 rs s2 ys r.3 in
      omega (arith, a, later)

  -- The records of a text are those that the reader finds in it.
  pub records-found : (xs : List ℕ) (rs : List (List (List ℕ))) → AreRecords cfg st.StartRecord xs rs → records cfg xs ≡ rs
  records-found xs rs r =
      reached-found (length xs + 1) st.StartRecord xs rs r.0 r.1 r.2 r.3 (reached-few st.StartRecord xs rs r.0 r.1 r.2)
