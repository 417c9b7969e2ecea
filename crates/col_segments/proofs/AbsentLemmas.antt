-- A slot that no segment keeps: no row that is picked has a cell there.
use Rattle.std.proofs.Common.{◌≡◌, ℕ, zero, suc, ◌+◌, ◌==◌, ◌&&◌, ◌||◌, nat_lt, Bool, true, false, cond, List, [], ◌∷◌, map, filter_map, find, length, slice_get, Option, Some, None, option_map, option_and_then, unwrap_or, refl, sym, ap, ◌∙◌, subst, arith}
use Rattle.std.specs.Prelude.{Result, Ok, if◌then◌else◌}
use Rattle.std.specs.List.{list_any, enumerate_from, cons_option}
use Rattle.std.proofs.lemmas.Bool.{true≢false, eq-eqb, lt-ltb, or_right}
use Rattle.std.proofs.lemmas.List.Folds.{list_any-append}
use Rattle.col_common.specs.Reading.{only_if}
use Rattle.col_model.specs.Category.{Slot, slot_cmp, same_slot}
use Rattle.col_model.specs.ColumnType.{ColumnType}
use Rattle.col_model.specs.File.{Part, PartColumn, whole_column}
use Rattle.col_model.specs.Limits.{is_too_large}
use Rattle.col_model.specs.Lookup.{row_of}
use Rattle.col_model.specs.Merge.{part_slot, column_in, whole_column_in, cells_in, kept_column, kept_columns, has_bad_column, joined_type, joined_content, joined_column, all_slots}
use Rattle.col_model.specs.Order.{Order}
use Rattle.col_model.specs.Refusal.{Refusal, ◌>>=◌, refuse_if, too_large, invalid_data}
use Rattle.col_model.specs.Table.{Cell, Content, Column}
use Rattle.col_model.specs.U64List.{joined_lists}
use Rattle.col_model.proofs.DistinctLaws.{has, has-distinct}
use Rattle.col_model.proofs.OrderedColumns.{same-slots}
use Rattle.col_model.proofs.RefusalLaws.{bind-ok, refuse_if-ok, same_Ok}
use Rattle.col_model.proofs.SeenLaws.{not-zero}
use Rattle.col_model.proofs.SharedTypes.{some≢none, same-some}
use Rattle.col_model.proofs.SlotLaws.{slots_total}
use Rattle.col_merge.proofs.SlotLemmas.{any-none}

-- sums with nothing and with one
pub add_none : (n : ℕ) → n + 0 ≡ n
add_none n = omega arith

pub add_one : (n i : ℕ) → n + suc i ≡ n + 1 + i
add_one n i = omega arith

pub zero_plus : (n : ℕ) → 0 + n ≡ n
zero_plus n = omega arith

-- ---- the slot is among all slots

module _ (slot : Slot) where
  abbrev part_slots : List Part → List Slot
  part_slots ps = joined_lists (map (λ p. map part_slot p.columns) ps)

  -- that of a column
  column-has : (cs : List PartColumn) (c : PartColumn) → find (λ c. same_slot (part_slot c) slot) cs ≡ Some c
      → has slot_cmp slot (map part_slot cs) ≡ true
  column-has [] c e = absurd (some≢none c (sym e))
  column-has (d ∷ cs) c e = by (same_slot (part_slot d) slot) refl e (column-has cs c)
    where
      by : (b : Bool) → same_slot (part_slot d) slot ≡ b → cond b (Some d) (find (λ c. same_slot (part_slot c) slot) cs) ≡ Some c
          → (find (λ c. same_slot (part_slot c) slot) cs ≡ Some c → has slot_cmp slot (map part_slot cs) ≡ true)
          → (same_slot slot (part_slot d) || has slot_cmp slot (map part_slot cs)) ≡ true
      by true p q later =
          let is : part_slot d ≡ slot = same-slots (part_slot d) slot p in
          let back : slot ≡ part_slot d = sym is in
          let turned : same_slot slot (part_slot d) ≡ same_slot (part_slot d) slot = λ i. same_slot (back i) (is i) in
          let here : same_slot slot (part_slot d) ≡ true = turned ∙ p in
          ap (λ b. b || has slot_cmp slot (map part_slot cs)) here
      by false p q later = or_right (same_slot slot (part_slot d)) (has slot_cmp slot (map part_slot cs)) (later q)

  parts-has : (ps : List Part) (k : ℕ) (p : Part) → slice_get ps k ≡ Some p → has slot_cmp slot (map part_slot p.columns) ≡ true
      → has slot_cmp slot (part_slots ps) ≡ true
  parts-has [] k p e h = absurd (some≢none p (sym e))
  parts-has (q ∷ ps) zero p e h =
      list_any-append (λ s. same_slot slot s) (map part_slot q.columns) (part_slots ps)
      ∙ ap (λ b. b || has slot_cmp slot (part_slots ps))
      (subst (λ (r : Part). has slot_cmp slot (map part_slot r.columns) ≡ true) (sym (same-some q p e)) h)
  parts-has (q ∷ ps) (suc k) p e h =
      list_any-append (λ s. same_slot slot s) (map part_slot q.columns) (part_slots ps)
      ∙ or_right (has slot_cmp slot (map part_slot q.columns)) (has slot_cmp slot (part_slots ps)) (parts-has ps k p e h)

  whole-found : (p : Part) (c : Column) → whole_column_in slot p ≡ Some c → (d : PartColumn) × (column_in slot p ≡ Some d)
  whole-found p c e = by (column_in slot p) e
    where
      by : (o : Option PartColumn) → option_and_then whole_column o ≡ Some c → (d : PartColumn) × (o ≡ Some d)
      by None e = absurd (some≢none c (sym e))
      by (Some d) e = (d, refl)

  -- that of a segment's column
  slot-among : (parts : List Part) (k : ℕ) (p : Part) (c : Column) → slice_get parts k ≡ Some p → whole_column_in slot p ≡ Some c
      → has slot_cmp slot (all_slots parts []) ≡ true
  slot-among parts k p c at e =
      let found = whole-found p c e in
      has-distinct slot_cmp slots_total slot (part_slots parts) ∙ parts-has parts k p at (column-has p.columns found.0 found.1)

-- ---- where joining gives none

module _ (order : Order) (picked : List (ℕ × ℕ)) (parts : List Part) (slot : Slot) where
  -- no segment keeps the slot
  kept-empty : joined_column order picked parts [] slot ≡ Ok None → kept_columns slot picked parts ≡ []
  unfolding joined_column
  kept-empty h =
      let kept = kept_columns slot picked parts in
      by kept (refuse_if-ok (has_bad_column slot parts) invalid_data (λ _. if length kept == 0 then Ok None else present kept) None h)
    where
      content : List Column → Content
      content kept = joined_content order slot picked parts kept

      made : List Column → ColumnType → Result (Option Column) Refusal
      made kept t = Ok (Some (record { name = slot.name; column_type = t; content = content kept }))

      fits : List Column → ColumnType → Result (Option Column) Refusal
      fits kept t = refuse_if (is_too_large t (content kept)) too_large >>= λ _. made kept t

      present : List Column → Result (Option Column) Refusal
      present kept = joined_type None kept >>= fits kept

      by : (kept : List Column) → (if length kept == 0 then Ok None else present kept) ≡ Ok None → kept ≡ []
      by [] e = refl
      by (d ∷ kept) e =
          let some : present (d ∷ kept) ≡ Ok None =
          subst (λ b. (if b then Ok None else present (d ∷ kept)) ≡ Ok None) (not-zero (length kept)) e in
          let first = bind-ok (joined_type None (d ∷ kept)) (fits (d ∷ kept)) None some in
          let last =
          refuse_if-ok (is_too_large first.0 (content (d ∷ kept))) too_large (λ _. made (d ∷ kept) first.0) None first.2 in
          absurd (some≢none _ (same_Ok _ None last))

  abbrev kept_from : ℕ → List Part → List Column
  kept_from k ps = filter_map (kept_column slot picked) (enumerate_from k ps)

  -- so that each segment doesn't
  kept-none : (k : ℕ) (ps : List Part) (i : ℕ) (p : Part) → kept_from k ps ≡ [] → slice_get ps i ≡ Some p
      → kept_column slot picked (k + i, p) ≡ None
  kept-none k [] i p none at = absurd (some≢none p (sym at))
  kept-none k (q ∷ ps) zero p none at = by (kept_column slot picked (k, q)) refl none
    where
      by : (o : Option Column) → kept_column slot picked (k, q) ≡ o → cons_option o (kept_from (k + 1) ps) ≡ []
          → kept_column slot picked (k + 0, p) ≡ None
      by None e n =
          let is : p ≡ q = sym (same-some q p at) in
          let there : k + 0 ≡ k = add_none k in
          (λ i. kept_column slot picked (there i, is i)) ∙ e
      by (Some c) e n = absurd (cc n)
  kept-none k (q ∷ ps) (suc i) p none at =
      ap (λ n. kept_column slot picked (n, p)) (add_one k i) ∙ kept-none (k + 1) ps i p (by (kept_column slot picked (k, q)) none) at
    where
      by : (o : Option Column) → cons_option o (kept_from (k + 1) ps) ≡ [] → kept_from (k + 1) ps ≡ []
      by None n = n
      by (Some c) n = absurd (cc n)

  -- a picked row of the segment has a cell in the column
  abbrev has_cell : ℕ → Column → ℕ × ℕ → Bool
  has_cell k c q = (q.0 == k) && nat_lt 0 (length (row_of c.content q.1))

  -- nor has a row that is picked a cell there
  row-empty : (k r : ℕ) (p : Part) (c : Column) (i : ℕ) → kept_column slot picked (k, p) ≡ None → whole_column_in slot p ≡ Some c
      → slice_get picked i ≡ Some (k, r) → row_of c.content r ≡ []
  row-empty k r p c i none whole at =
      let keep : Column → Option Column = λ c. only_if (list_any (has_cell k c) picked) c in
      let kept : only_if (list_any (has_cell k c) picked) c ≡ None =
      sym (ap (λ (o : Option Column). option_and_then keep o) whole) ∙ none in
      empty (row_of c.content r) (any-none (has_cell k c) picked i (k, r) at (refused (list_any (has_cell k c) picked) kept))
    where
      refused : (b : Bool) → only_if b c ≡ None → b ≡ false
      refused true e = absurd (some≢none c e)
      refused false e = refl

      self : (k == k) ≡ true
      self = eq-eqb k k refl

      more : (n : ℕ) → nat_lt 0 (suc n) ≡ true
      more n = lt-ltb 0 (suc n) (omega arith)

      empty : (cells : List Cell) → ((k == k) && nat_lt 0 (length cells)) ≡ false → cells ≡ []
      empty [] e = refl
      empty (x ∷ cells) e = absurd (true≢false (sym (λ i. self i && more (length cells) i) ∙ e))

  -- and none of its cells are told
  pub cells-empty : (i : ℕ) (q : ℕ × ℕ) → slice_get picked i ≡ Some q
      → (has slot_cmp slot (all_slots parts []) ≡ true → joined_column order picked parts [] slot ≡ Ok None) → cells_in slot parts q ≡ []
  cells-empty i q at joins = by (slice_get parts q.0) refl
    where
      at_column : (p : Part) → slice_get parts q.0 ≡ Some p → (o : Option Column) → whole_column_in slot p ≡ o
          → unwrap_or (option_map (λ c. row_of c.content q.1) o) [] ≡ []
      at_column p here None e = refl
      at_column p here (Some c) e =
          let empty = kept-empty (joins (slot-among slot parts q.0 p c here e)) in
          let none = ap (λ n. kept_column slot picked (n, p)) (sym (zero_plus q.0)) ∙ kept-none 0 parts q.0 p empty here in
          row-empty q.0 q.1 p c i none e at

      by : (o : Option Part) → slice_get parts q.0 ≡ o
          → unwrap_or (option_map (λ c. row_of c.content q.1) (option_and_then (whole_column_in slot) o)) [] ≡ []
      by None e = refl
      by (Some p) e = at_column p e (whole_column_in slot p) refl
