-- What writing a table that was filled leaves and answers.
use Rattle.std.proofs.Common.{◌≡◌, ◌∙◌, ℕ, None, Ok, Err, sym, ap, subst, inl, inr}
use Rattle.std.specs.Prelude.{Option, Result, is_err, is_ok}
use Rattle.std.proofs.lemmas.Bool.{false≢true}
use Rattle.col_common.specs.Outside.{SeenSink}
use Rattle.col_common.specs.declared.error.ColumnarError.{ColumnarError}
use Rattle.col_model.specs.Table.{Table}
use Rattle.col_model.specs.Written.{Recorded, written}
use Rattle.col_writer_file.specs.Tables.{WritesFile, WritesTable}
use Rattle.col_csv.specs.Refused.{refusal_of}
use Rattle.col_csv.specs.declared.csv_error.CsvError.{CsvError}
use Rattle.col_csv_import.specs.Filled.{FillsTable}
use Rattle.col_csv_import.specs.Imports.{AddsTable, Imports, KeepsFront, table_or_bad}

module _ (a b : SeenSink) (entries : Recorded) (n : ℕ) (expected : Option Table) (filled : FillsTable entries n expected) where
  is-ok : table_or_bad expected ≡ Ok filled.table
  is-ok = ap table_or_bad filled.is

  file-of : (r : Result (Unit {0}) ColumnarError) → WritesTable a b r (written entries n None) → WritesFile a b r filled.table
  file-of r w = w.table filled.table filled.made

  -- what the sink held stays in front
  pub front-kept : (r : Result (Unit {0}) ColumnarError) → WritesTable a b r (written entries n None) → KeepsFront a b
  front-kept r w = let f = file-of r w in record { grown = f.written.grown; later = f.written.later }

  -- the table was written
  pub table-added : (done : Unit {0}) → WritesTable a b (Ok done) (written entries n None) → AddsTable a b (table_or_bad expected)
  table-added done w =
      let f = file-of (Ok done) w in
      record { table = filled.table; is = is-ok; file = f.file; stands = f.stands; added = f.written.ok }

  -- it wasn't: memory was wanting, or a write failed
  pub table-refused : (e : ColumnarError) (y : CsvError) → y ≡ refusal_of e → WritesTable a b (Err e) (written entries n None)
      → Imports (⊥) a b (Err y) (table_or_bad expected)
  table-refused e y is w =
      let s = (file-of (Err e) w).written in
      subst (λ y. Imports (⊥) a b (Err y) (table_or_bad expected)) (sym is) (elim s.causes [
        | inl out ↦ subst (λ e. Imports (⊥) a b (Err (refusal_of e)) (table_or_bad expected)) (sym out)
            (λ h. absurd (false≢true (sym (ap is_err is-ok) ∙ h)))
        | inr failed ↦ subst (λ e. Imports (⊥) a b (Err (refusal_of e)) (table_or_bad expected)) (sym failed)
            (ap is_ok is-ok, s.write_fault (ap Err failed))
      ])
