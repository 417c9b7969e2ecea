-- What a merge that refuses nothing makes of each slot.
use Rattle.std.proofs.Common.{◌≡◌, ℕ, ◌^◌, nat_le, Bool, true, false, ◌||◌, List, [], ◌∷◌, filter_map, find, length, Some, None, Ok, refl, sym, ◌∙◌, ap, subst, option_map}
use Rattle.std.specs.Prelude.{Option, Result, ⊤}
use Rattle.std.specs.List.{AllByRecursion, cons_option}
use Rattle.std.specs.Ordering.{eq_by_cmp}
use Rattle.std.proofs.lemmas.Cmp.{eq_by_cmp_equiv}
use Rattle.col_common.specs.Reading.{only_if}
use Rattle.col_model.specs.Category.{category_of, Slot, slot_cmp, same_slot}
use Rattle.col_model.specs.ColumnType.{ColumnType}
use Rattle.col_model.specs.File.{Part}
use Rattle.col_model.specs.Merge.{Required, required_slot, kept_columns, required_type, joined_column, all_slots, required_refusal, row_counts, merged}
use Rattle.col_model.specs.Order.{Order, picks}
use Rattle.col_model.specs.Refusal.{Refusal, ◌>>=◌, refuse_if, or_refuse, each_ok, bad_order, too_large}
use Rattle.col_model.specs.Soundness.{HasSoundColumns}
use Rattle.col_model.specs.Table.{Column, Table}
use Rattle.col_model.proofs.DistinctLaws.{has}
use Rattle.col_model.proofs.ListLaws.{find-passes}
use Rattle.col_model.proofs.MergedSound.{kept-all, joined-kept}
use Rattle.col_model.proofs.MergedTables.{merged-is}
use Rattle.col_model.proofs.OrderedColumns.{EachIs, each-is, same-slots}
use Rattle.col_model.proofs.RefusalLaws.{bind-ok, same_Ok, err_not_ok, refuse_if-ok}
use Rattle.col_model.proofs.SeenLaws.{column_at}
use Rattle.col_model.proofs.SharedTypes.{some≢none, same-some}
use Rattle.col_model.proofs.SlotLaws.{column_slot, slots_total}

-- ---- the steps of a merge

-- the rows that a merge picked, and what it made of each slot
pub record IsMade (parts : List Part) (required : List Required) (order : Order) (t : Table) : Type 0 where
  pub picked : List (ℕ × ℕ)
  pub picks_are : or_refuse (picks order (row_counts parts)) bad_order ≡ Ok picked
  pub made : List (Option Column)
  pub each : EachIs (joined_column order picked parts required) (all_slots parts required) made
  pub is : record { row_count = length picked; columns = filter_map (λ c. c) made } ≡ t

-- A merge that gives a table refused neither its order nor a slot.
pub merged-made : (parts : List Part) (required : List Required) (order : Order) (t : Table)
    → merged parts required order ≡ Ok t → IsMade parts required order t
unfolding merged
merged-made parts required order t e =
    let table : List (ℕ × ℕ) → List (Option Column) → Table =
    λ picked columns. record { row_count = length picked; columns = filter_map (λ c. c) columns } in
    let make : List (ℕ × ℕ) → List (Option Column) → Result Table Refusal = λ picked columns. Ok (table picked columns) in
    let join : List (ℕ × ℕ) → Result (List (Option Column)) Refusal =
    λ picked. each_ok (joined_column order picked parts required) (all_slots parts required) in
    let rest : List (ℕ × ℕ) → ⊤ → Result Table Refusal =
    λ picked _. required_refusal [] required >>= λ _. join picked >>= make picked in
    let first = bind-ok (or_refuse (picks order (row_counts parts)) bad_order)
    (λ picked. refuse_if (nat_le (2 ^ 32) (length picked)) too_large >>= rest picked) t e in
    let small = refuse_if-ok (nat_le (2 ^ 32) (length first.0)) too_large (rest first.0) t first.2 in
    let named = bind-ok (required_refusal [] required) (λ _. join first.0 >>= make first.0) t small in
    let joined = bind-ok (join first.0) (make first.0) t named.2 in
    record {
      picked = first.0;
      picks_are = first.1;
      made = joined.0;
      each = each-is (joined_column order first.0 parts required) (all_slots parts required) joined.0 joined.1;
      is = same_Ok (table first.0 joined.0) t joined.2;
    }

-- ---- the column of a slot

-- a type that is required of a slot is of its category
required-within : (slot : Slot) (required : List Required) (u : ColumnType) → required_type required slot ≡ Some u
    → category_of u ≡ slot.category
required-within slot required u = by (find (λ r. same_slot (required_slot r) slot) required) refl
  where
    by : (o : Option Required) → find (λ r. same_slot (required_slot r) slot) required ≡ o
        → option_map (λ r. r.column_type) o ≡ Some u → category_of u ≡ slot.category
    by None p q = absurd (some≢none u (sym q))
    by (Some r) p q =
        let same = same-slots (required_slot r) slot (find-passes (λ r. same_slot (required_slot r) slot) required r p) in
        ap category_of (sym (same-some r.column_type u q)) ∙ ap (λ s. s.category) same

-- The column that a merge makes of a slot is of this slot.
pub column-own : (order : Order) (picked : List (ℕ × ℕ)) (parts : List Part) (required : List Required) (slot : Slot)
    (c : Column) → AllByRecursion HasSoundColumns parts
    → joined_column order picked parts required slot ≡ Ok (Some c) → column_slot c ≡ slot
column-own order picked parts required slot c all e =
    let is = merged-is order picked parts required slot c e in
    let typed = joined-kept slot (required_type required slot) (kept_columns slot picked parts) is.t
    (kept-all slot picked 0 parts all) (required-within slot required) is.typed in
    ap column_slot (sym is.is) ∙ λ i. record { name = slot.name; category = typed.within i }

-- ---- the column that is found

module _ (f : Slot → Result (Option Column) Refusal) (own : (s : Slot) (c : Column) → f s ≡ Ok (Some c) → column_slot c ≡ s)
    (slot : Slot) (P : Option Column → Type 0) (given : (o : Option Column) → f slot ≡ Ok o → P o) where
  -- of columns that are made slot by slot, what holds of the one that is made of a slot holds of the
  -- one that is found under it
  found-made : (slots : List Slot) (os : List (Option Column)) → EachIs f slots os
      → (has slot_cmp slot slots ≡ false → P None)
      → P (find (λ c. same_slot (column_slot c) slot) (filter_map (λ c. c) os))
  found-made [] [] e none = none refl
  found-made [] (o ∷ os) e none = absurd e
  found-made (s ∷ slots) [] e none = absurd e
  found-made (s ∷ slots) (o ∷ os) e none = by (eq_by_cmp slot_cmp slot s) refl o e.0 none (found-made slots os e.1)
    where
      rest : Option Column
      rest = find (λ c. same_slot (column_slot c) slot) (filter_map (λ c. c) os)

      here : (o : Option Column) → eq_by_cmp slot_cmp slot s ≡ true → f s ≡ Ok o → P o
      here o p q = given o (ap f (same-slots slot s p) ∙ q)

      tested : (b : Bool) (c : Column) → eq_by_cmp slot_cmp slot s ≡ b → f s ≡ Ok (Some c) → same_slot (column_slot c) slot ≡ b
      tested b c p q = ap (λ q. same_slot q slot) (own s c q) ∙ (eq_by_cmp_equiv slots_total).symm s slot ∙ p

      by : (b : Bool) → eq_by_cmp slot_cmp slot s ≡ b → (o : Option Column) → f s ≡ Ok o
          → ((b || has slot_cmp slot slots) ≡ false → P None)
          → ((has slot_cmp slot slots ≡ false → P None) → P rest)
          → P (find (λ c. same_slot (column_slot c) slot) (cons_option o (filter_map (λ c. c) os)))
      by true p None q none later = later (λ _. here None p q)
      by true p (Some c) q none later = rw (tested true c p q) (here (Some c) p q)
      by false p None q none later = later none
      by false p (Some c) q none later = rw (tested false c p q) (later none)

-- What holds of the column that a merge made of a slot, and of none where neither the parts nor the
-- required columns have the slot, holds of the column that the table has under it.
pub column-made : (parts : List Part) (required : List Required) (order : Order) (t : Table) (slot : Slot)
    (P : Option Column → Type 0) → AllByRecursion HasSoundColumns parts → (is : IsMade parts required order t)
    → ((o : Option Column) → joined_column order is.picked parts required slot ≡ Ok o → P o)
    → (has slot_cmp slot (all_slots parts required) ≡ false → P None) → P (column_at slot t)
column-made parts required order t slot P sound is given none =
    subst (λ (t : Table). P (column_at slot t)) is.is
    (found-made (joined_column order is.picked parts required)
    (λ s c. column-own order is.picked parts required s c sound) slot P given (all_slots parts required)
    is.made is.each none)

-- the rows that are picked under a test are those that there are
pub picked-rows : (b : Bool) (rows picked : List (ℕ × ℕ)) → or_refuse (only_if b rows) bad_order ≡ Ok picked → picked ≡ rows
picked-rows true rows picked e = sym (same_Ok rows picked e)
picked-rows false rows picked e = absurd (err_not_ok bad_order picked e)
