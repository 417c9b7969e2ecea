-- The cells under each slot of a stack.
use Rattle.std.proofs.Common.{◌≡◌, ℕ, ◌+◌, ◌==◌, Bool, true, false, ◌&&◌, List, [], ◌∷◌, ◌++◌, map, filter_map, find, length, Some, None, is_none, Ok, refl, sym, ◌∙◌, ap, option_map, unwrap_or, nat_eq}
use Rattle.std.specs.Prelude.{Option, Result, if◌then◌else◌}
use Rattle.std.specs.List.{list_all, AllByRecursion, enumerate_from}
use Rattle.std.specs.Cmp.Lexicographic.{pointwise}
use Rattle.std.specs.Ordering.{eq_by_cmp}
use Rattle.std.proofs.lemmas.Bool.{true≢false, false≢true, and_parts, or_parts}
use Rattle.std.proofs.lemmas.Cmp.{eq_by_cmp_equiv}
use Rattle.std.proofs.lemmas.List.Folds.{list_any-append}
use Rattle.col_model.specs.Category.{Slot, slot_cmp, same_slot}
use Rattle.col_model.specs.ColumnType.{ColumnType}
use Rattle.col_model.specs.File.{Part, PartColumn}
use Rattle.col_model.specs.Limits.{is_too_large}
use Rattle.col_model.specs.Merge.{Required, required_slot, part_slot, cells_in, kept_column, kept_columns, required_type, joined_type, joined_content, has_bad_column, joined_column, all_slots, row_counts, merged}
use Rattle.col_model.specs.Order.{stack, picks, all_rows}
use Rattle.col_model.specs.Refusal.{Refusal, ◌>>=◌, refuse_if, or_refuse, invalid_data, bad_order, too_large}
use Rattle.col_model.specs.Soundness.{HasSoundColumns}
use Rattle.col_model.specs.Table.{Cell, Content, Column, Table}
use Rattle.col_model.specs.U64List.{joined_lists}
use Rattle.col_model.proofs.DistinctLaws.{has, has-distinct}
use Rattle.col_model.proofs.MergedSound.{rows-tested}
use Rattle.col_model.proofs.MergedTables.{merged-is}
use Rattle.col_model.proofs.RefusalLaws.{bind-ok, same_Ok, refuse_if-ok}
use Rattle.col_model.proofs.SeenLaws.{column_at, not-zero}
use Rattle.col_model.proofs.SharedTypes.{some≢none}
use Rattle.col_model.proofs.SlotLaws.{slots_total}
use Rattle.col_model.proofs.SoundTables.{rows-all}
use Rattle.col_laws.proofs.MergeLemmas.{merged-made, column-made, picked-rows}

-- ---- the cells of a column

-- the cells of a column, none where there is none
abbrev pub cells_of : Option Column → List Cell
cells_of o = unwrap_or (option_map (λ c. joined_lists c.content.rows) o) []

-- where each cell passes a test that none passes, there is none
none-of : (cells : List Cell) → list_all (λ c. false) cells ≡ true → cells ≡ []
none-of [] e = refl
none-of (c ∷ cells) e = absurd (false≢true e)

all-of-none : (P : Column → Type 0) (cs : List Column) → (length cs == 0) ≡ true → AllByRecursion P cs
all-of-none P [] e = tt
all-of-none P (c ∷ cs) e = absurd (true≢false (sym e ∙ not-zero (length cs)))

-- a part without a column of this slot has none to keep
lacking : (slot : Slot) (cs : List PartColumn) → has slot_cmp slot (map part_slot cs) ≡ false
    → find (λ c. same_slot (part_slot c) slot) cs ≡ None
lacking slot [] e = refl
lacking slot (c ∷ cs) e =
    let parts = or_parts _ _ e in
    rw ((eq_by_cmp_equiv slots_total).symm (part_slot c) slot ∙ parts.0) (lacking slot cs parts.1)

lacking-kept : (slot : Slot) (picked : List (ℕ × ℕ)) (k : ℕ) (parts : List Part)
    → has slot_cmp slot (joined_lists (map (λ p. map part_slot p.columns) parts)) ≡ false
    → filter_map (kept_column slot picked) (enumerate_from k parts) ≡ []
lacking-kept slot picked k [] e = refl
lacking-kept slot picked k (p ∷ parts) e =
    let slots = or_parts _ _ (sym (list_any-append (eq_by_cmp slot_cmp slot) (map part_slot p.columns)
    (joined_lists (map (λ p. map part_slot p.columns) parts))) ∙ e) in
    rw (lacking slot p.columns slots.0) (lacking-kept slot picked (k + 1) parts slots.1)

module _ (own : List ℕ) (picked : List (ℕ × ℕ)) (parts : List Part) (required : List Required) (slot : Slot) where
  -- where a stack keeps no column, the picked rows hold no cell
  none-picked : (length (kept_columns slot picked parts) == 0) ≡ true → joined_lists (map (cells_in slot parts) picked) ≡ []
  none-picked e =
      none-of (joined_lists (map (cells_in slot parts) picked))
      (rows-all (λ c. false) (map (cells_in slot parts) picked)
      ∙ rows-tested slot parts picked (list_all (λ c. false)) refl (all-of-none _ (kept_columns slot picked parts) e))

  -- the cells of a stack's column are those of the picked rows
  joined-cells : (o : Option Column) → joined_column (stack own) picked parts required slot ≡ Ok o
      → cells_of o ≡ joined_lists (map (cells_in slot parts) picked)
  unfolding joined_column
  joined-cells (Some c) e = ap (λ c. joined_lists c.content.rows) (sym (merged-is (stack own) picked parts required slot c e).is)
  joined-cells None e =
      by (is_none (required_type required slot) && (length (kept_columns slot picked parts) == 0)) refl
      (refuse_if-ok (has_bad_column slot parts) invalid_data
      (λ _. if is_none (required_type required slot) && (length (kept_columns slot picked parts) == 0) then Ok None else present) None e)
    where
      content : Content
      content = joined_content (stack own) slot picked parts (kept_columns slot picked parts)

      sized : ColumnType → Result (Option Column) Refusal
      sized t =
          refuse_if (is_too_large t content) too_large
          >>= λ _. Ok (Some (record { name = slot.name; column_type = t; content = content }))

      present : Result (Option Column) Refusal
      present = joined_type (required_type required slot) (kept_columns slot picked parts) >>= sized

      by : (b : Bool) → (is_none (required_type required slot) && (length (kept_columns slot picked parts) == 0)) ≡ b
          → (if b then Ok None else present) ≡ Ok None → [] ≡ joined_lists (map (cells_in slot parts) picked)
      by true p q = sym (none-picked (and_parts (is_none (required_type required slot)) _ p).1)
      by false p q =
          let typed = bind-ok (joined_type (required_type required slot) (kept_columns slot picked parts)) sized None q in
          absurd (some≢none _ (same_Ok _ None (refuse_if-ok (is_too_large typed.0 content) too_large
          (λ _. Ok (Some (record { name = slot.name; column_type = typed.0; content = content }))) None typed.2)))

  -- under a slot that no part has and that isn't required, the picked rows hold no cell
  absent-cells : has slot_cmp slot (all_slots parts required) ≡ false → joined_lists (map (cells_in slot parts) picked) ≡ []
  absent-cells e =
      let slots = joined_lists (map (λ p. map part_slot p.columns) parts) in
      let absent = or_parts _ _ (sym (has-distinct slot_cmp slots_total slot (map required_slot required ++ slots)
      ∙ list_any-append (eq_by_cmp slot_cmp slot) (map required_slot required) slots) ∙ e) in
      none-picked (ap (λ cs. length cs == 0) (lacking-kept slot picked 0 parts absent.1))

-- the picks that a stack takes are all rows
all-picked : (own counts : List ℕ) (picked : List (ℕ × ℕ)) → or_refuse (picks (stack own) counts) bad_order ≡ Ok picked
    → picked ≡ all_rows counts
unfolding picks
all-picked own counts picked = picked-rows (pointwise nat_eq own counts) (all_rows counts) picked

-- The cells under a slot of a stack are those of its parts' rows, one part after another.
pub stack-cells : (parts : List Part) (required : List Required) (own : List ℕ) (x : Table) (slot : Slot)
    → AllByRecursion HasSoundColumns parts → merged parts required (stack own) ≡ Ok x
    → cells_of (column_at slot x) ≡ joined_lists (map (cells_in slot parts) (all_rows (row_counts parts)))
stack-cells parts required own x slot sound e =
    let is = merged-made parts required (stack own) x e in
    column-made parts required (stack own) x slot
    (λ o. cells_of o ≡ joined_lists (map (cells_in slot parts) is.picked)) sound is
    (joined-cells own is.picked parts required slot)
    (λ a. sym (absent-cells own is.picked parts required slot a))
    ∙ ap (λ picked. joined_lists (map (cells_in slot parts) picked)) (all-picked own (row_counts parts) is.picked is.picks_are)
