-- What a merge of open files comes to, of the order and behind it.
use Rattle.std.proofs.Common.{◌≡◌, ◌⊎◌, ◌+◌, ◌≤◌, ℕ, List, Option, Some, Ok, Err, Bool, inl, inr, sym, ap, ◌∙◌, subst, arith}
use Rattle.col_common.specs.declared.error.ColumnarError.{ColumnarError}
use Rattle.col_common.specs.declared.error.ColumnarError.TheVariants.{ReadFault}
use Rattle.col_file.specs.Readers.{SeenReader}
use Rattle.col_merge.specs.Parts.{told_parts}
use Rattle.col_merge.specs.Readings.{AllRead}
use Rattle.col_merge.proofs.ReadingLemmas.{all_read-then, all_read-most, parts-stay, rose-before}
use Rattle.col_model.specs.File.{Part, StandsFor, table_of}
use Rattle.col_model.specs.Merge.{Required, merged}
use Rattle.col_model.specs.Refusal.{◌>>=◌}
use Rattle.col_program.specs.Report.{report_of}
use Rattle.col_program.specs.Script.{Question, RowOrder}
use Rattle.col_model.specs.Table.{Table}
use Rattle.col_order.specs.RowOrders.{order_of}
use Rattle.col_order.specs.declared.merge_row_order.MergeRowOrder.{MergeRowOrder}
use Rattle.col_writer_columns.specs.Answers.{MayRefuse}
use Rattle.col_common.proofs.OnOkLemmas.{same-error}
use Rattle.col_outcome.specs.Making.{MakesIfRead, MergesReaders, IsMade, column_reads, merged_over}
use Rattle.col_outcome.specs.Ordered.{IsOrderOver, TakesOrder, order_reads, merge_reads}
use Rattle.col_outcome.specs.declared.merging.FileAndReport.{FileAndReport}

at_most_both : (m n : ℕ) → m ≤ m + n
at_most_both m n = omega arith

module _ (required : List Required) (o : Option RowOrder) (rs ss : List SeenReader) where
  -- where there is no order, there is no merge
  pub order-refused : {B : Type 0} (IsOf : Table → B → Type 0) (e : ColumnarError) → TakesOrder o rs ss (Err e)
      → MergesReaders {B = B} IsOf (merge_reads o) rs ss (Err e) (merged_over required o)
  order-refused IsOf e h = record {
    made = λ parts told. record { ok = tt; refused = by parts (h.taken parts told) };
    known = h.known;
    read_fault = λ fault. h.read_fault (ap Err (same-error e ReadFault fault));
    stay = all_read-most (order_reads o) (merge_reads o) rs ss (λ k. at_most_both (order_reads o k) (column_reads k)) h.reads;
  }
    where
      by : (parts : List Part) → IsOrderOver o parts (Err e) → (e ≡ ReadFault) ⊎ MayRefuse (merged_over required o parts) e
      by parts (inl fault) = inl fault
      by parts (inr refused) = inr (refused required)

  module _ (us : List SeenReader) (taken : MergeRowOrder) (t : TakesOrder o rs ss (Ok taken)) where
    -- readers after the order and the merge
    pub both-read : AllRead column_reads ss us → AllRead (merge_reads o) rs us
    both-read stay = all_read-then (order_reads o) column_reads rs ss us t.reads stay

    still-told : (parts : List Part) → told_parts rs ≡ Some parts → told_parts ss ≡ Some parts
    still-told parts told = parts-stay (order_reads o) rs ss t.reads ∙ told

    over-order : (parts : List Part) → told_parts rs ≡ Some parts
        → merged_over required o parts ≡ merged parts required (order_of taken)
    over-order parts told = ap (λ r. r >>= merged parts required) (t.taken parts told)

    -- a refusal of the merged file is one of the file and its report
    pub file-refused : {B : Type 0} (IsOf : Table → B → Type 0) (e : ColumnarError)
        → MergesReaders {B = List ℕ} StandsFor column_reads ss us (Err e) (λ parts. merged parts required (order_of taken))
        → MergesReaders {B = B} IsOf (merge_reads o) rs us (Err e) (merged_over required o)
    file-refused IsOf e h = record {
      made =
          λ parts told. record {
            ok = tt;
            refused = subst (λ r. (e ≡ ReadFault) ⊎ MayRefuse r e) (sym (over-order parts told))
                (h.made parts (still-told parts told)).refused;
          };
      known = h.known;
      read_fault = λ fault. rose-before (order_reads o) rs ss us t.reads (h.read_fault (ap Err (same-error e ReadFault fault)));
      stay = both-read h.stay;
    }

    -- a merged file with the report of its table is what the merge comes to
    pub all-made : (short : Bool) (questions : List Question) (made : FileAndReport)
        → MergesReaders StandsFor column_reads ss us (Ok made.file) (λ parts. merged parts required (order_of taken))
        → ((t : Table) → table_of made.file ≡ Some t → made.report ≡ report_of t questions short)
        → MergesReaders (IsMade short questions) (merge_reads o) rs us (Ok made) (merged_over required o)
    all-made short questions made h reported = record {
      made = λ parts told. by parts told (h.made parts (still-told parts told)).ok;
      known = tt;
      read_fault = λ e. cc;
      stay = both-read h.stay;
    }
      where
        by : (parts : List Part) → told_parts rs ≡ Some parts
            → ((t : Table) × (merged parts required (order_of taken) ≡ Ok t) × StandsFor t made.file)
            → MakesIfRead (IsMade short questions) (Ok made) (merged_over required o parts)
        by parts told (t, at, stands) = record {
          ok = (t, over-order parts told ∙ at, (stands, reported t stands.content));
          refused = tt;
        }
