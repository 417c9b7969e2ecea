-- Answers to readers' rows that were put in order, by the columns that were opened.
use Rattle.std.proofs.Common.{◌≡◌, ◌<◌, ◌≤◌, ◌^◌, ℕ, Bool, true, false, List, length, sum, refl, sym, ◌∙◌, ap, subst, arith}
use Rattle.std.specs.Prelude.{nat_lt, Option, Some, None, Result, Ok, Err, IfSome, IfOk, IfErr, slice_get, slice_index_or}
use Rattle.std.specs.Prelude.{◌↔◌, ◌⊎◌}
use Rattle.std.proofs.Common.{inl, inr}
use Rattle.std.proofs.lemmas.List.{length-map}
use Rattle.std.specs.List.{AllByRecursion}
use Rattle.col_common.specs.declared.error.ColumnarError.{ColumnarError}
use Rattle.col_common.specs.declared.error.ColumnarError.TheVariants.{OutOfMemory, ReadFault, InvalidData, TooLarge}
use Rattle.col_model.specs.Category.{Slot}
use Rattle.col_model.specs.File.{Part}
use Rattle.col_model.specs.Merge.{has_bad_column, row_counts}
use Rattle.col_model.specs.Order.{Order, shuffle}
use Rattle.col_model.specs.Refusal.{Refusal, invalid_data, too_large}
use Rattle.col_model.specs.SortedOrder.{sorted_order}
use Rattle.col_order.specs.Orders.{Shuffle}
use Rattle.col_dynamic.specs.declared.dynamic_column.DynamicColumn.{DynamicColumn}
use Rattle.col_file.specs.Readers.{SeenReader, IsRead}
use Rattle.col_merge_plan.specs.Slots.{counts_read}
use Rattle.col_merge_plan.proofs.CountLemmas.{length-counts}
use Rattle.col_merge.specs.Opened.{IsOpenedAs, AllOpenedAs, RefusesColumns}
use Rattle.col_merge.specs.Parts.{told_parts}
use Rattle.col_merge.proofs.PartLemmas.{parts-told, counts-told}
use Rattle.col_sort.specs.Columns.{AreOf, rows_by_cells}
use Rattle.col_sort.specs.Sorts.{named_by, IsSortedOrder, RefusesOrder, SortsRows}
use Rattle.col_merge.proofs.OpenTurnLemmas.{zip-length, column-at}
use Rattle.col_sort.proofs.OpenedLemmas.{too-many, some-bad, none-bad, IsColumnOf, all-whole, rows-are, opened-of}

-- a test that failed, and one that passed
abbrev failed : ColumnarError → Result (Unit {0}) ColumnarError
failed e = Err e

abbrev passed : Unit {0} → Result (Unit {0}) ColumnarError
passed x = Ok x

-- where the readers tell parts
told-by : {P : List Part → Type 0} (rs : List SeenReader) → ((parts : List Part) → told_parts rs ≡ Some parts → P parts)
    → (o : Option (List Part)) → told_parts rs ≡ o → IfSome o P
told-by rs f None t = tt
told-by rs f (Some parts) t = f parts t

module _ (olds : List SeenReader) (slot : Slot) (reversed : Bool) (read : AllByRecursion IsRead olds) where
  counts-of : (parts : List Part) → told_parts olds ≡ Some parts → row_counts parts ≡ counts_read olds
  counts-of parts t = counts-told olds parts (parts-told olds parts read t)

  -- rows that were put in order by opened columns are the sorted order
  pub order-sorted : (os : List (Option DynamicColumn)) (counts : List ℕ) (order : Shuffle) → counts ≡ counts_read olds
      → sum counts < 2 ^ 32 → AllOpenedAs slot olds os → order.counts ≡ counts
      → (AreOf slot.category os → order.addresses ≡ rows_by_cells reversed os counts) → IsSortedOrder olds slot reversed order
  order-sorted os counts order same few opened e rows = record {
    counts = e ∙ same;
    told = told-by olds (λ parts t. by parts t (counts-of parts t)
        (sym (zip-length (IsOpenedAs slot) olds os opened) ∙ sym (length-counts olds) ∙ ap length (sym (counts-of parts t))
        ∙ length-map parts (λ (p : Part). p.row_count)) (λ k p f. column-at slot olds parts os k p t opened f))
        (told_parts olds) refl;
  }
    where
      by : (parts : List Part) → told_parts olds ≡ Some parts → row_counts parts ≡ counts_read olds → length os ≡ length parts
          → ((k : ℕ) (p : Part) → slice_get parts k ≡ Some p → IsColumnOf slot p (slice_index_or os k None))
          → sorted_order parts slot reversed ≡ Ok (named_by order)
      by parts t many long at =
          none-bad parts slot reversed (subst (λ ns. sum ns < 2 ^ 32) (same ∙ sym many) few)
          (all-whole slot parts (λ k. slice_index_or os k None) at)
          ∙ (λ i. Ok (shuffle ((many ∙ sym same ∙ sym e) i)
          ((rows-are slot reversed parts os counts long (many ∙ sym same) at ∙ sym (rows (opened-of slot os parts long at))) i)))

  -- too many rows are refused as the definition has it
  pub many-refused : (e : ColumnarError) → ((failed e ≡ Err TooLarge) ↔ (2 ^ 32 ≤ sum (counts_read olds)))
      → (e ≡ TooLarge) ⊎ (e ≡ OutOfMemory) → RefusesOrder olds olds e (λ parts. sorted_order parts slot reversed)
  many-refused e iff (inr m) = subst (λ e. RefusesOrder olds olds e (λ parts. sorted_order parts slot reversed)) (sym m) tt
  many-refused e iff (inl m) =
      let past : 2 ^ 32 ≤ sum (counts_read olds) = iff.0 (ap Err m) in
      subst (λ e. RefusesOrder olds olds e (λ parts. sorted_order parts slot reversed)) (sym m) (
        refl,
        record {
          refusal = too_large;
          is = refl;
          told = told-by olds (λ parts t. too-many parts slot reversed
              (subst (λ ns. 2 ^ 32 ≤ sum ns) (sym (counts-of parts t)) past)) (told_parts olds) refl;
        },
      )

  -- a refusal to open columns is the definition's
  pub open-refused : (news : List SeenReader) (e : ColumnarError) → sum (counts_read olds) < 2 ^ 32
      → RefusesColumns slot olds news e → RefusesOrder olds news e (λ parts. sorted_order parts slot reversed)
  open-refused news OutOfMemory few h = tt
  open-refused news ReadFault few h = h
  open-refused news InvalidData few h = record {
    refusal = invalid_data;
    is = refl;
    told = told-by olds (λ parts t. some-bad parts slot reversed
        (subst (λ ns. sum ns < 2 ^ 32) (sym (counts-of parts t)) few)
        (subst (λ o. IfSome o (λ parts. has_bad_column slot parts ≡ true)) t h)) (told_parts olds) refl;
  }
  open-refused news e few h = absurd h

-- want of memory
pub memory-refused : (olds news : List SeenReader) (e : ColumnarError) (expected : List Part → Result Order Refusal)
    → e ≡ OutOfMemory → RefusesOrder olds news e expected
memory-refused olds news e expected h = subst (λ e. RefusesOrder olds news e expected) (sym h) tt

-- a shuffle that isn't refused wants memory alone
pub only-memory : (e : ColumnarError) (o : Option ColumnarError) → o ≡ None → (e ≡ OutOfMemory) ⊎ (o ≡ Some e) → e ≡ OutOfMemory
only-memory e o none (inl m) = m
only-memory e o none (inr h) = absurd cc

-- a refusal that an error is answered for
pub err-sorts : (olds news : List SeenReader) (r : Result Shuffle ColumnarError) (y e : ColumnarError) (slot : Slot)
    (reversed : Bool) → r ≡ Err y → y ≡ e → RefusesOrder olds news e (λ parts. sorted_order parts slot reversed)
    → SortsRows olds news r slot reversed
err-sorts olds news r y e slot reversed f g h =
    subst (λ r. SortsRows olds news r slot reversed) (sym (f ∙ ap Err g)) h

-- columns of readers with few rows, and of their slot
pub ordered-sorts : (olds news : List SeenReader) (r : Result Shuffle ColumnarError) (slot : Slot) (reversed : Bool)
    (os : List (Option DynamicColumn)) (counts : List ℕ) → AllByRecursion IsRead olds → counts ≡ counts_read olds
    → sum counts < 2 ^ 32 → AllOpenedAs slot olds os
    → IfOk r (λ (order : Shuffle). (order.counts ≡ counts)
    × (AreOf slot.category os → order.addresses ≡ rows_by_cells reversed os counts)) → IfErr r (λ e. e ≡ OutOfMemory)
    → SortsRows olds news r slot reversed
ordered-sorts olds news (Ok order) slot reversed os counts read same few opened ok err =
    order-sorted olds slot reversed read os counts order same few opened ok.0 ok.1
ordered-sorts olds news (Err e) slot reversed os counts read same few opened ok err =
    memory-refused olds news e (λ parts. sorted_order parts slot reversed) err

-- readers whose rows weren't refused have few
pub not-refused : (n : ℕ) (x : Unit {0}) → ((passed x ≡ Err TooLarge) ↔ (2 ^ 32 ≤ n)) → n < 2 ^ 32
not-refused n x iff = by (nat_lt n (2 ^ 32)) refl
  where
    by : (b : Bool) → nat_lt n (2 ^ 32) ≡ b → n < 2 ^ 32
    by true h = grind arith
    by false h =
        let past : 2 ^ 32 ≤ n = grind arith in
        let other = iff.1 past in
        absurd cc
