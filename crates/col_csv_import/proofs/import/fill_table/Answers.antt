use Rattle.std.proofs.Common.{◌∙◌, Some, ap, drop, length, map, subst, sym}
use Rattle.std.proofs.lemmas.List.{take_at}
use Rattle.std.proofs.lemmas.Result.{err_from_is_err_and}
use Rattle.csv.specs.Records.{fields_of}
use Rattle.col_csv.specs.CsvTable.{keys_of_header, table_of_csv}
use Rattle.col_csv_import.specs.Columns.{slotted}
use Rattle.col_csv_import.specs.Filled.{FillsTable}
use Rattle.col_csv_import.specs.Readers.{left_of}
use Rattle.col_csv_import.proofs.HeaderLemmas.{room-header}
use Rattle.col_csv_import.proofs.ReadingLemmas.{answered-none, answered-some}
use Rattle.col_csv_import.proofs.TableLemmas.{header-refused, nothing-read, rows-filled, rows-refused}
use Rattle.col_csv_import.proofs.import.fill_table.Goals as goal

pub returns-then-not-branch : goal.returns-then-not-branch
returns-then-not-branch c =
    nothing-read c.args.text.now (sym c.reader_of-reader.ensures.left
    ∙ answered-none c.reader_of-reader.result c.read_next.new.reader (fields_of c.read_next.new.fields)
    c.in_ok-read_next.field-0 c.if-not-branch.true c.in_ok-read_next.ensures)

pub returns-in_err-columns : goal.returns-in_err-columns
returns-in_err-columns c =
    let p = err_from_is_err_and c.from_residual-in_err-columns.result c.from_residual-in_err-columns.ensures.1 in
    let took = answered-some c.reader_of-reader.result c.read_next.new.reader (fields_of c.read_next.new.fields)
    c.in_ok-read_next.field-0 c.if-not-branch.false c.in_ok-read_next.ensures in
    rw (p.1, p.2) (header-refused c.args.text.now (fields_of c.read_next.new.fields) (left_of c.read_next.new.reader)
    (sym c.reader_of-reader.ensures.left ∙ took.left) c.in_err-columns.field-0.0 c.in_err-columns.ensures)

pub take_records-requires-clause-empty : goal.take_records-requires-clause-empty
take_records-requires-clause-empty c =
    room-header (keys_of_header (fields_of c.read_next.new.fields)) c.deref_mut.result.now
    (c.in_ok-columns.ensures ∙ ap Some (sym c.deref_mut.ensures.value))

pub returns-in_err-row_count : goal.returns-in_err-row_count
returns-in_err-row_count c =
    let p = err_from_is_err_and c.from_residual-in_err-row_count.result c.from_residual-in_err-row_count.ensures.1 in
    let took = answered-some c.reader_of-reader.result c.read_next.new.reader (fields_of c.read_next.new.fields)
    c.in_ok-read_next.field-0 c.if-not-branch.false c.in_ok-read_next.ensures in
    rw (p.1, p.2) (rows-refused c.args.text.now (fields_of c.read_next.new.fields) (left_of c.read_next.new.reader)
    (sym c.reader_of-reader.ensures.left ∙ took.left) c.deref_mut.result.now c.in_err-row_count.field-0.0
    (c.in_ok-columns.ensures ∙ ap Some (sym c.deref_mut.ensures.value)) c.in_err-row_count.ensures)

pub returns : goal.returns
returns c =
    let took = answered-some c.reader_of-reader.result c.read_next.new.reader (fields_of c.read_next.new.fields)
    c.in_ok-read_next.field-0 c.if-not-branch.false c.in_ok-read_next.ensures in
    let made = rows-filled c.args.text.now (fields_of c.read_next.new.fields) (left_of c.read_next.new.reader)
    (sym c.reader_of-reader.ensures.left ∙ took.left) c.deref_mut.result.now c.take_records.new.columns c.in_ok-row_count.row_count
    (λ i. (c.type_inv.text i).fits) c.requires c.texts_are_sound.ensures
    (c.in_ok-columns.ensures ∙ ap Some (sym c.deref_mut.ensures.value)) c.in_ok-row_count.ensures.0 c.in_ok-row_count.ensures.1 in
    let back = take_at c.take_records.new.columns (drop (length c.take_records.new.columns) c.in_ok-columns.columns.items)
    c.in_ok-columns.columns.len (c.take_records.auto.columns ∙ c.deref_mut.ensures.len) in
    subst (λ cs. FillsTable (map slotted cs) c.in_ok-row_count.row_count (table_of_csv c.args.text.now)) (sym back) made
