-- Blocks of rows, and the writer that makes their text.
use Rattle.std.proofs.Common.{◌≡◌, ◌≢◌, ◌∙◌, ℕ, ◌+◌, ◌-◌, ◌≤◌, zero, suc, false, List, [], ◌∷◌, ◌++◌, map, Option, None, Some, sym, ap, subst, arith, append-nil, append_assoc}
use Rattle.std.specs.Io.KnownBytes.{Appends, Keeps}
use Rattle.std.specs.List.{range_with_len}
use Rattle.std.specs.declared.alloc.Global.{Global}
use Rattle.std.specs.declared.vec.Vec.{Vec}
use Rattle.std.proofs.lemmas.Grind.{flat_map-append}
use Rattle.std.proofs.lemmas.List.FromFn.{map-range_with_len_more}
use Rattle.std.proofs.lemmas.Option.{same_Some}
use Rattle.csv.specs.Records.{Row, fields_of}
use Rattle.csv.specs.Writing.{default_writer, fields_written, has_written, row_text, text_written, writer_pending, writer_setup, writer_under}
use Rattle.csv.specs.declared.writer.QuoteStyle.TheVariants as style
use Rattle.csv.specs.declared.writer.Writer.{Writer}
use Rattle.col_model.specs.Table.{Column}
use Rattle.col_csv.specs.Csv.{record_text, records_text, row_fields, row_records}
use Rattle.col_csv_export.specs.Putting.{HasFields, HasText, rows_between}
use Rattle.col_csv_export.proofs.RecordLemmas.{rows-more}

-- ---- rows

module _ (columns : List Column) where
  -- the texts of rows from 0 on, with those of a run of rows behind them
  rows-run : (from k n : ℕ) → from + k ≡ n
      → records_text (row_records columns from) ++ records_text (map (row_fields columns) (range_with_len from k))
      ≡ records_text (row_records columns n)
  rows-run from zero n e =
      append-nil (records_text (row_records columns from))
      ∙ ap (λ m. records_text (row_records columns m)) (omega (arith, e))
  rows-run from (suc k) n e =
      let rest = records_text (map (row_fields columns) (range_with_len (from + 1) k)) in
      sym (append_assoc (records_text (row_records columns from)) (record_text (row_fields columns from)) rest)
      ∙ ap (λ t. t ++ rest) (rows-more columns from) ∙ rows-run (from + 1) k n (omega (arith, e))

  -- the same of a block
  pub rows-joined : (from next : ℕ) → from ≤ next
      → records_text (row_records columns from) ++ records_text (rows_between columns from next)
      ≡ records_text (row_records columns next)
  rows-joined from next h = rows-run from (next - from) next (omega (arith, h))

  -- a block of no rows, and one of one row more
  pub block-none : (from : ℕ) → records_text (rows_between columns from from) ≡ []
  block-none from =
      let none : from - from ≡ 0 = omega arith in
      ap (λ k. records_text (map (row_fields columns) (range_with_len from k))) none

  pub block-more : (from next : ℕ) → from ≤ next
      → records_text (rows_between columns from next) ++ record_text (row_fields columns next)
      ≡ records_text (rows_between columns from (next + 1))
  block-more from next h =
      let here = record_text (row_fields columns next) in
      let one : (next - from) + 1 ≡ (next + 1) - from = omega (arith, h) in
      ap (λ t. records_text (rows_between columns from next) ++ t) (sym (append-nil here))
      ∙ sym (flat_map-append record_text (rows_between columns from next) (row_fields columns next ∷ []))
      ∙ ap records_text (sym (map-range_with_len_more (row_fields columns) from (next - from) next (omega (arith, h))))
      ∙ ap (λ k. records_text (map (row_fields columns) (range_with_len from k))) one

-- ---- the writer

-- a new writer has what was in memory
pub text-begun : (w : Writer (Vec ℕ Global)) (v : Vec ℕ Global) → writer_under w ≡ v → writer_pending w ≡ []
    → writer_setup w ≡ default_writer → fields_written w ≡ 0 → has_written w ≡ false → HasText w v.items
text-begun w v under pending setup fields clean = record {
  written = ap Some (ap (λ z. z ++ writer_pending w) (ap (λ z. z.items) under) ∙ ap (λ z. v.items ++ z) pending
      ∙ append-nil v.items);
  setup = setup;
  fields = fields;
  clean = clean;
}

-- bytes that are known stay so
known-more : (x y : Option (List ℕ)) (s bs : List ℕ) → x ≡ Some s → Appends x y bs → y ≡ Some (s ++ bs)
known-more None y s bs e h = absurd (cc)
known-more (Some x) None s bs e h = absurd h
known-more (Some x) (Some y) s bs e h = ap Some (h ∙ ap (λ z. z ++ bs) (same_Some x s e))

-- a record is written behind the others
pub text-more : (a b : Writer (Vec ℕ Global)) (s : List ℕ) (fields : List (List ℕ)) → HasText a s
    → Appends (text_written (λ v. Some v.items) a) (text_written (λ v. Some v.items) b) (row_text (writer_setup a) fields)
    → writer_setup b ≡ writer_setup a → fields_written b ≡ 0 → has_written b ≡ false → HasText b (s ++ record_text fields)
unfolding record_text
text-more a b s fields has added setup ended clean = record {
  written = known-more (text_written (λ v. Some v.items) a) (text_written (λ v. Some v.items) b) s
      (row_text default_writer fields) has.written
      (subst (λ c. Appends (text_written (λ v. Some v.items) a) (text_written (λ v. Some v.items) b) (row_text c fields))
      has.setup added);
  setup = setup ∙ has.setup;
  fields = ended;
  clean = clean;
}

-- its style doesn't look at numbers
pub style-plain : (w : Writer (Vec ℕ Global)) (s : List ℕ) → HasText w s → (writer_setup w).style ≢ style.NonNumeric
style-plain w s has = λ e. let same : style.Necessary ≡ style.NonNumeric = ap (λ c. c.style) (sym has.setup) ∙ e in absurd (cc)

-- what is given back at the end is the text
pub text-kept : (w : Writer (Vec ℕ Global)) (s t : List ℕ) → HasText w s
    → Keeps (text_written (λ v. Some v.items) w) (Some t) → t ≡ s
text-kept w s t has kept = by (text_written (λ v. Some v.items) w) has.written kept
  where
    by : (x : Option (List ℕ)) → x ≡ Some s → Keeps x (Some t) → t ≡ s
    by None e h = absurd (cc)
    by (Some x) e h = h ∙ same_Some x s e

module _ (columns : List Column) (before : List ℕ) (from : ℕ) where
  -- the text with no row behind it
  pub text-none : (w : Writer (Vec ℕ Global)) → HasText w before
      → HasText w (before ++ records_text (rows_between columns from from))
  text-none w has = subst (HasText w) (sym (ap (λ t. before ++ t) (block-none columns from) ∙ append-nil before)) has

  -- one row more is behind it
  pub text-next : (w : Writer (Vec ℕ Global)) (next : ℕ) (r : Row) → from ≤ next → HasFields r (row_fields columns next)
      → HasText w ((before ++ records_text (rows_between columns from next)) ++ record_text (fields_of r))
      → HasText w (before ++ records_text (rows_between columns from (next + 1)))
  text-next w next r h row has =
      let rows = records_text (rows_between columns from next) in
      subst (HasText w) (ap (λ fs. (before ++ rows) ++ record_text fs) row.whole
      ∙ append_assoc before rows (record_text (row_fields columns next))
      ∙ ap (λ t. before ++ t) (block-more columns from next h)) has
