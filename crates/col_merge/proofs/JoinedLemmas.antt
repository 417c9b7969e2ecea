-- A joined column is of its slot.
use Rattle.std.proofs.Common.{◌≡◌, ℕ, ◌+◌, ◌==◌, ◌&&◌, Bool, true, false, cond, not, List, [], ◌∷◌, filter_map, find, length, Some, None, refl, sym, ◌∙◌, ap, option_map, option_and_then, nat_lt}
use Rattle.std.specs.Prelude.{Option, Ok}
use Rattle.std.specs.List.{list_all, list_any, enumerate_from, cons_option, AllByRecursion}
use Rattle.col_common.specs.Reading.{only_if}
use Rattle.col_model.specs.Category.{category_of, Slot, same_slot}
use Rattle.col_model.specs.ColumnType.{ColumnType}
use Rattle.col_model.specs.File.{Part, PartColumn, whole_column}
use Rattle.col_model.specs.Limits.{is_of_type}
use Rattle.col_model.specs.Lookup.{row_of}
use Rattle.col_model.specs.Merge.{Required, required_slot, part_slot, whole_column_in, kept_column, kept_columns, required_type, joined_type, shared_type, all_cells, joined_column}
use Rattle.col_model.specs.Order.{Order}
use Rattle.col_model.specs.Refusal.{cannot_coerce}
use Rattle.col_model.specs.Table.{Column}
use Rattle.col_model.proofs.SlotLaws.{column_slot}
use Rattle.col_model.proofs.RefusalLaws.{refuse_if-ok, same_Ok}
use Rattle.col_model.proofs.SharedTypes.{low, high, is_i64, IsIn, some≢none, same-some, shared-type}
use Rattle.col_model.proofs.JoinedTypes.{category-type_by}
use Rattle.col_model.proofs.MergedTables.{merged-is}
use Rattle.col_model.proofs.GistResults.{type-of}
use Rattle.col_model.proofs.MergedSound.{chosen-is, whole-slot}
use Rattle.col_model.proofs.OrderedColumns.{same-slots}

-- a column that is found is of the slot
found-slot : (slot : Slot) (cs : List PartColumn) (d : Column)
    → option_and_then whole_column (find (λ c. same_slot (part_slot c) slot) cs) ≡ Some d → column_slot d ≡ slot
found-slot slot [] d e = absurd (some≢none d (sym e))
found-slot slot (c ∷ cs) d e = by (same_slot (part_slot c) slot) refl e (found-slot slot cs d)
  where
    by : (b : Bool) → same_slot (part_slot c) slot ≡ b
        → option_and_then whole_column (cond b (Some c) (find (λ c. same_slot (part_slot c) slot) cs)) ≡ Some d
        → (option_and_then whole_column (find (λ c. same_slot (part_slot c) slot) cs) ≡ Some d
        → column_slot d ≡ slot) → column_slot d ≡ slot
    by true p q later = whole-slot c d q ∙ same-slots (part_slot c) slot p
    by false p q later = later q

kept-slot : (slot : Slot) (picked : List (ℕ × ℕ)) (k : ℕ) (p : Part) (d : Column)
    → kept_column slot picked (k, p) ≡ Some d → column_slot d ≡ slot
kept-slot slot picked k p d e = by (whole_column_in slot p) refl e
  where
    by : (o : Option Column) → whole_column_in slot p ≡ o
        → option_and_then
        (λ c. only_if (list_any (λ q. (q.0 == k) && nat_lt 0 (length (row_of c.content q.1))) picked) c) o ≡ Some d
        → column_slot d ≡ slot
    by None q e = absurd (some≢none d (sym e))
    by (Some c) q e = ap column_slot (sym (chosen-is _ c d e)) ∙ found-slot slot p.columns c q

-- kept columns are of the slot's category
kept-in : (slot : Slot) (picked : List (ℕ × ℕ)) (k : ℕ) (parts : List Part)
    → AllByRecursion (IsIn slot.category) (filter_map (kept_column slot picked) (enumerate_from k parts))
kept-in slot picked k [] = tt
kept-in slot picked k (p ∷ parts) = by (kept_column slot picked (k, p)) refl (kept-in slot picked (k + 1) parts)
  where
    by : (o : Option Column) → kept_column slot picked (k, p) ≡ o
        → AllByRecursion (IsIn slot.category) (filter_map (kept_column slot picked) (enumerate_from (k + 1) parts))
        → AllByRecursion (IsIn slot.category)
        (cons_option o (filter_map (kept_column slot picked) (enumerate_from (k + 1) parts)))
    by None q later = later
    by (Some d) q later = (ap (λ s. s.category) (kept-slot slot picked k p d q), later)

shared-in : (k : _) (ds : List Column) (t : ColumnType) → AllByRecursion (IsIn k) ds → shared_type ds ≡ Some t → category_of t ≡ k
shared-in k [] t all e = absurd (some≢none t (sym e))
shared-in k (d ∷ ds) t all e =
    category-type_by k (list_any low (d ∷ ds)) (list_any high (d ∷ ds)) (list_any is_i64 (d ∷ ds)) t
    (sym (shared-type k d ds all) ∙ e)

-- a type that is required is of the slot's category
required-in : (slot : Slot) (u : ColumnType) (required : List Required) → required_type required slot ≡ Some u
    → category_of u ≡ slot.category
required-in slot u [] e = absurd (some≢none u (sym e))
required-in slot u (r ∷ rs) e = by (same_slot (required_slot r) slot) refl e (required-in slot u rs)
  where
    by : (b : Bool) → same_slot (required_slot r) slot ≡ b
        → option_map (λ r. r.column_type) (cond b (Some r) (find (λ r. same_slot (required_slot r) slot) rs))
        ≡ Some u → (required_type rs slot ≡ Some u → category_of u ≡ slot.category) → category_of u ≡ slot.category
    by true p q later = ap category_of (sym (same-some r.column_type u q)) ∙ ap (λ s. s.category) (same-slots (required_slot r) slot p)
    by false p q later = later q

joined-in :
    (slot : Slot) (required : List Required) (ds : List Column) (t : ColumnType) (wanted : Option ColumnType)
    → required_type required slot ≡ wanted → AllByRecursion (IsIn slot.category) ds → joined_type wanted ds ≡ Ok t
    → category_of t ≡ slot.category
joined-in slot required ds t None w all e = shared-in slot.category ds t all (type-of (shared_type ds) t e)
joined-in slot required ds t (Some u) w all e =
    let same = same_Ok u t (refuse_if-ok (not (list_all (λ c. list_all (is_of_type u) (all_cells c)) ds)) cannot_coerce (λ _. Ok u) t e) in
    ap category_of (sym same) ∙ required-in slot u required w

-- A joined column has its slot's name and category.
pub joined-slot : (order : Order) (picked : List (ℕ × ℕ)) (parts : List Part) (required : List Required)
    (slot : Slot) (c : Column) → joined_column order picked parts required slot ≡ Ok (Some c) → column_slot c ≡ slot
joined-slot order picked parts required slot c h =
    let merged = merged-is order picked parts required slot c h in
    let within = joined-in slot required (kept_columns slot picked parts) merged.t (required_type required slot)
    refl (kept-in slot picked 0 parts) merged.typed in
    ap column_slot (sym merged.is) ∙ (λ i. record { name = slot.name; category = within i })
