-- Orders that are taken of open files.
use Rattle.std.proofs.Common.{◌≡◌, ◌⊎◌, ◌≤◌, ◌^◌, ℕ, List, length, Option, Some, None, Result, Ok, Err, inl, inr, refl, sym, ap, ◌∙◌, subst}
use Rattle.std.specs.List.{AllByRecursion}
use Rattle.std.proofs.lemmas.Bool.{le-leb}
use Rattle.col_common.specs.declared.error.ColumnarError.{ColumnarError}
use Rattle.col_common.specs.declared.error.ColumnarError.TheVariants.{OutOfMemory, ReadFault, WriteFault, InvalidData, BadOrder, BadName, RequiredConflict, CannotCoerce, NumericalConflict, TooLarge, NoCodec, ForcedType, DocOrder, DocOutOfRange, TieBreakerStart, NotUtf8}
use Rattle.col_file.specs.Readers.{SeenReader, IsRead}
use Rattle.col_model.specs.Category.{Slot, slot_of}
use Rattle.col_model.specs.File.{Part}
use Rattle.col_model.specs.Merge.{Required, merged, row_counts}
use Rattle.col_model.specs.Order.{Order, stack, shuffle, picks}
use Rattle.col_model.specs.Refusal.{Refusal, ◌>>=◌, bad_order, too_large}
use Rattle.col_model.specs.SortedOrder.{sorted_order}
use Rattle.col_program.specs.Outcome.{order_over}
use Rattle.col_program.specs.Script.{RowOrder, SortKey, named, sorted}
use Rattle.col_order.specs.Orders.{Shuffle}
use Rattle.col_order.specs.RowOrders.{order_of}
use Rattle.col_order.specs.declared.merge_row_order.MergeRowOrder.{MergeRowOrder}
use Rattle.col_merge.specs.Parts.{told_parts}
use Rattle.col_merge.specs.Readings.{AllRead, slot_reads}
use Rattle.col_merge.specs.Turns.{refusal_of}
use Rattle.col_merge.proofs.MergedLemmas.{merged-bad_order}
use Rattle.col_merge.proofs.PartLemmas.{parts-told, counts-told}
use Rattle.col_merge.proofs.ReadingLemmas.{all_read-none}
use Rattle.col_merge_plan.specs.Slots.{counts_read}
use Rattle.col_common.proofs.OnOkLemmas.{same-error}
use Rattle.col_sort.specs.Sorts.{IsSortedOrder, SortsRows, RefusesOrder, named_by}
use Rattle.col_outcome.specs.Making.{IsMergeRefusal, merged_over}
use Rattle.col_outcome.specs.Ordered.{IsOrder, IsOrderOver, TakesOrder, order_reads}
use Rattle.col_outcome.proofs.MergedFileLemmas.{HasCause, on_parts, answer-is, parts-no_fault}

-- ---- orders by row counts

-- an order that picks too many rows is refused by the merge
merged-many : (parts : List Part) (required : List Required) (order : Order) (picked : List (ℕ × ℕ))
    → picks order (row_counts parts) ≡ Some picked → 2 ^ 32 ≤ length picked
    → merged parts required order ≡ Err too_large
unfolding merged
merged-many parts required order picked some many = rw (some, le-leb (2 ^ 32) (length picked) many) refl

memory_no_fault : OutOfMemory ≡ ReadFault → ⊥
memory_no_fault h = cc

bad_no_fault : BadOrder ≡ ReadFault → ⊥
bad_no_fault h = cc

large_no_fault : TooLarge ≡ ReadFault → ⊥
large_no_fault h = cc

module _ (o : Option RowOrder) (order : List ℕ → Order) (rs : List SeenReader) (read : AllByRecursion IsRead rs)
    (over : (parts : List Part) → order_over o parts ≡ Ok (order (row_counts parts))) where
  counts-are : (parts : List Part) → told_parts rs ≡ Some parts → counts_read rs ≡ row_counts parts
  counts-are parts told = sym (counts-told rs parts (parts-told rs parts read told))

  merged-over : (parts : List Part) (required : List Required)
      → merged_over required o parts ≡ merged parts required (order (row_counts parts))
  merged-over parts required = ap (λ r. r >>= merged parts required) (over parts)

  refused-over : (parts : List Part) (e : ColumnarError) → IsOrder (order (row_counts parts)) (row_counts parts) (Err e)
      → IsOrderOver o parts (Err e)
  refused-over parts e (inl memory) = inr (λ required. inl memory)
  refused-over parts e (inr (inl bad)) =
      inr (λ required. inr (
        bad_order,
        merged-over parts required ∙ merged-bad_order parts required (order (row_counts parts)) bad.1,
        bad.0,
      ))
  refused-over parts e (inr (inr large)) =
      inr (λ required. inr (
        too_large,
        merged-over parts required
            ∙ merged-many parts required (order (row_counts parts)) large.1.picked large.1.are large.1.many,
        large.0,
      ))

  known-order : (e : ColumnarError) → IsOrder (order (counts_read rs)) (counts_read rs) (Err e) → IsMergeRefusal e
  known-order e (inl memory) = inl memory
  known-order e (inr (inl bad)) = inr (inr (bad_order, ap refusal_of bad.0))
  known-order e (inr (inr large)) = inr (inr (too_large, ap refusal_of large.0))

  no_fault : (e : ColumnarError) → IsOrder (order (counts_read rs)) (counts_read rs) (Err e) → e ≡ ReadFault → ⊥
  no_fault e (inl memory) fault = memory_no_fault (sym memory ∙ fault)
  no_fault e (inr (inl bad)) fault = bad_no_fault (sym bad.0 ∙ fault)
  no_fault e (inr (inr large)) fault = large_no_fault (sym large.0 ∙ fault)

  -- an order that row counts alone make, or refuse, is taken with nothing read
  counted-taken : (result : Result MergeRowOrder ColumnarError) → IsOrder (order (counts_read rs)) (counts_read rs) result
      → TakesOrder o rs rs result
  counted-taken (Ok made) h = record {
    taken = λ parts told. over parts ∙ ap (λ counts. Ok (order counts)) (sym (counts-are parts told)) ∙ ap Ok (sym h);
    known = tt;
    read_fault = λ e. cc;
    reads = all_read-none (order_reads o) rs;
  }
  counted-taken (Err e) h = record {
    taken =
        λ parts told. refused-over parts e (subst (λ counts. IsOrder (order counts) counts (Err e)) (counts-are parts told) h);
    known = known-order e h;
    read_fault = λ fault. absurd (no_fault e h (same-error e ReadFault fault));
    reads = all_read-none (order_reads o) rs;
  }

-- the order of all rows, file after file
pub stack-taken : (rs : List SeenReader) (result : Result MergeRowOrder ColumnarError) → AllByRecursion IsRead rs
    → IsOrder (stack (counts_read rs)) (counts_read rs) result → TakesOrder None rs rs result
stack-taken rs result read h = counted-taken None stack rs read (λ parts. refl) result h

-- the order of rows that are named
pub shuffle-taken : (rs : List SeenReader) (rows : List (ℕ × ℕ)) (result : Result MergeRowOrder ColumnarError)
    → AllByRecursion IsRead rs → IsOrder (shuffle (counts_read rs) rows) (counts_read rs) result
    → TakesOrder (Some (named rows)) rs rs result
shuffle-taken rs rows result read h =
    counted-taken (Some (named rows)) (λ counts. shuffle counts rows) rs read (λ parts. refl) result h

-- ---- sorted rows

module _ (key : SortKey) (olds news : List SeenReader)
    (reads : AllRead (slot_reads (slot_of key.name key.column_type)) olds news) where
  -- the slot by which rows are sorted, and the sorted order
  abbrev slot : Slot
  slot = slot_of key.name key.column_type

  abbrev in_order : List Part → Result Order Refusal
  in_order parts = sorted_order parts slot key.reversed

  -- rows that were put in order are taken in it
  pub sort-taken : (s : Shuffle) (made : MergeRowOrder) → IsSortedOrder olds slot key.reversed s → order_of made ≡ named_by s
      → TakesOrder (Some (sorted key)) olds news (Ok made)
  sort-taken s made h is = record {
    taken =
        λ parts told. on_parts (told_parts olds) parts (λ ps. in_order ps ≡ Ok (named_by s)) told h.told ∙ ap Ok (sym is);
    known = tt;
    read_fault = λ e. cc;
    reads = reads;
  }

  -- want of memory
  pub sort-memory : (e : ColumnarError) → e ≡ OutOfMemory → TakesOrder (Some (sorted key)) olds news (Err e)
  sort-memory e memory = record {
    taken = λ parts told. inr (λ required. inl memory);
    known = inl memory;
    read_fault = λ fault. absurd (memory_no_fault (sym memory ∙ same-error e ReadFault fault));
    reads = reads;
  }

  cause : (e : ColumnarError) → RefusesOrder olds news e in_order → HasCause olds news e in_order
  cause OutOfMemory h = inl refl
  cause ReadFault h = inr (inl (refl, h))
  cause WriteFault h = absurd h
  cause InvalidData h = inr (inr h)
  cause BadOrder h = absurd h
  cause BadName h = absurd h
  cause RequiredConflict h = absurd h
  cause CannotCoerce h = absurd h
  cause NumericalConflict h = absurd h
  cause TooLarge h = inr (inr h.1)
  cause NoCodec h = absurd h
  cause ForcedType h = absurd h
  cause DocOrder h = absurd h
  cause DocOutOfRange h = absurd h
  cause TieBreakerStart h = absurd h
  cause NotUtf8 h = absurd h

  -- rows that weren't put in order have no order that is taken
  pub sort-refused : (e : ColumnarError) → SortsRows olds news (Err e) slot key.reversed
      → TakesOrder (Some (sorted key)) olds news (Err e)
  sort-refused e h = by (cause e h)
    where
      by : HasCause olds news e in_order → TakesOrder (Some (sorted key)) olds news (Err e)
      by (inl memory) = sort-memory e memory
      by (inr (inl fault)) = record {
        taken = λ parts told. inl fault.0;
        known = inr (inl fault.0);
        read_fault = λ at. fault.1;
        reads = reads;
      }
      by (inr (inr p)) = record {
        taken =
            λ parts told. inr (λ required. inr (
              p.refusal,
              ap (λ r. r >>= merged parts required)
                  (on_parts (told_parts olds) parts (λ ps. in_order ps ≡ Err p.refusal) told p.told),
              answer-is e p.refusal p.is,
            ));
        known = inr (inr (p.refusal, p.is));
        read_fault = λ at. absurd (parts-no_fault olds e in_order p (same-error e ReadFault at));
        reads = reads;
      }
