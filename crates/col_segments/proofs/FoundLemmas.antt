-- The column that is found under a slot of a merged table is the joined one.
use Rattle.std.proofs.Common.{◌≡◌, ◌⊎◌, inl, inr, ⊎_elim, ℕ, Bool, true, false, cond, List, [], ◌∷◌, filter_map, find, Option, Some, None, refl, sym, ap, ◌∙◌, subst}
use Rattle.std.specs.Prelude.{Result, Ok}
use Rattle.std.proofs.lemmas.Bool.{true≢false, or_cases}
use Rattle.col_model.specs.Category.{Slot, slot_cmp, same_slot}
use Rattle.col_model.specs.File.{Part}
use Rattle.col_model.specs.Merge.{joined_column}
use Rattle.col_model.specs.Order.{Order}
use Rattle.col_model.specs.Refusal.{Refusal}
use Rattle.col_model.specs.Table.{Column}
use Rattle.col_model.proofs.DistinctLaws.{has}
use Rattle.col_model.proofs.OrderedColumns.{same-slots, EachIs}
use Rattle.col_model.proofs.SlotLaws.{column_slot}
use Rattle.col_merge.proofs.JoinedLemmas.{joined-slot}

-- the column of a slot
abbrev pub column_at : Slot → List Column → Option Column
column_at slot cs = find (λ c. same_slot (column_slot c) slot) cs

module _ (order : Order) (picked : List (ℕ × ℕ)) (parts : List Part) (slot : Slot) where
  abbrev joined : Slot → Result (Option Column) Refusal
  joined q = joined_column order picked parts [] q

  -- it is found, and is what joining the slot gives; or there is none, and where the slot was
  -- joined, that gave none
  abbrev pub IsFound : List Slot → List Column → Type 0
  IsFound slots cs = ((c : Column) × (column_at slot cs ≡ Some c) × (joined slot ≡ Ok (Some c)))
      ⊎ ((column_at slot cs ≡ None) × (has slot_cmp slot slots ≡ true → joined slot ≡ Ok None))

  -- a column of the slot in front
  found-first : (s : Slot) (c : Column) (cs : List Column) (slots : List Slot) → joined s ≡ Ok (Some c) → (b : Bool)
      → same_slot (column_slot c) slot ≡ b → IsFound slots cs → IsFound (s ∷ slots) (c ∷ cs)
  found-first s c cs slots e true same rest =
      let own = joined-slot order picked parts [] s c e in
      let is : s ≡ slot = sym own ∙ same-slots (column_slot c) slot same in
      inl (c, ap (λ b. cond b (Some c) (column_at slot cs)) same, subst (λ q. joined q ≡ Ok (Some c)) is e)
  found-first s c cs slots e false same rest =
      let own = joined-slot order picked parts [] s c e in
      let skip : column_at slot (c ∷ cs) ≡ column_at slot cs = ap (λ b. cond b (Some c) (column_at slot cs)) same in
      ⊎_elim
      (λ found. inl (found.0, skip ∙ found.1, found.2))
      (λ none. inr (
        skip ∙ none.0,
        λ h.
            ⊎_elim (λ at. absurd (other own at)) none.1 (or_cases (same_slot slot s) (has slot_cmp slot slots) h),
      ))
      rest
    where
      other : column_slot c ≡ s → same_slot slot s ≡ true → ⊥
      other own at =
          let is : slot ≡ s = same-slots slot s at in
          let there : column_slot c ≡ slot = own ∙ sym is in
          let both : same_slot (column_slot c) slot ≡ same_slot slot s = λ i. same_slot (there i) (is i) in
          true≢false (sym at ∙ sym both ∙ same)

  -- all slots, in order
  pub found-in : (slots : List Slot) (os : List (Option Column)) → EachIs joined slots os → IsFound slots (filter_map (λ o. o) os)
  found-in [] [] e = inr (refl, λ h. absurd (true≢false (sym h)))
  found-in [] (o ∷ os) e = absurd e
  found-in (s ∷ slots) [] e = absurd e
  found-in (s ∷ slots) (None ∷ os) e =
      let own : same_slot slot s ≡ true → joined slot ≡ Ok None =
      λ at. subst (λ q. joined q ≡ Ok None) (sym (same-slots slot s at)) e.0 in
      ⊎_elim
      (λ found. inl found)
      (λ none. inr (none.0, λ h. ⊎_elim own none.1 (or_cases (same_slot slot s) (has slot_cmp slot slots) h)))
      (found-in slots os e.1)
  found-in (s ∷ slots) (Some c ∷ os) e =
      found-first s c (filter_map (λ o. o) os) slots e.0 (same_slot (column_slot c) slot) refl (found-in slots os e.1)
