use Rattle.std.proofs.lemmas.Result.{err_from_is_err_and}
use Rattle.csv.specs.Records.{fields_of}
use Rattle.col_csv_import.proofs.ReadingLemmas.{answered-none, answered-some}
use Rattle.col_csv_import.proofs.TakeLemmas.{taking-end, taking-more, taking-refused, taking-start, taking-unread}
use Rattle.col_csv_import.proofs.records.take_records.Goals as goal

pub loop-row-init : goal.loop-row-init
loop-row-init c = taking-start _ c.args.reader.now c.args.columns.now c.requires.reading c.requires.width c.requires.empty

pub returns-in_err-read_next : goal.returns-in_err-read_next
returns-in_err-read_next c =
    let p = err_from_is_err_and c.from_residual.result c.from_residual.ensures.1 in
    rw (p.1, p.2) (taking-unread _ _ _ _ _ _ c.loop-row.invariant c.in_err-read_next.field-0.0 c.read_next.new.reader
    (fields_of c.read_next.new.fields) c.in_err-read_next.ensures)

pub returns-then-not-branch : goal.returns-then-not-branch
returns-then-not-branch c =
    taking-end _ _ _ _ _ _ c.loop-row.invariant
    (answered-none c.loop-row.reader c.read_next.new.reader (fields_of c.read_next.new.fields) c.in_ok-read_next.field-0
    c.if-not-branch.true c.in_ok-read_next.ensures)

pub returns-in_err-take_record : goal.returns-in_err-take_record
returns-in_err-take_record c =
    let p = err_from_is_err_and c.from_residual-in_err-take_record.result c.from_residual-in_err-take_record.ensures.1 in
    rw (p.1, p.2) (taking-refused _ _ _ _ _ _ c.loop-row.invariant c.in_err-take_record.field-0.0 c.read_next.new.reader
    (fields_of c.read_next.new.fields)
    (answered-some c.loop-row.reader c.read_next.new.reader (fields_of c.read_next.new.fields) c.in_ok-read_next.field-0
    c.if-not-branch.false c.in_ok-read_next.ensures)
    c.in_err-take_record.ensures.taken)

pub loop-row-preserved : goal.loop-row-preserved
loop-row-preserved c =
    taking-more _ _ _ _ _ _ c.loop-row.invariant c.read_next.new.reader (fields_of c.read_next.new.fields) c.take_record.new.columns
    (answered-some c.loop-row.reader c.read_next.new.reader (fields_of c.read_next.new.fields) c.in_ok-read_next.field-0
    c.if-not-branch.false c.in_ok-read_next.ensures)
    c.in_ok-take_record.ensures.taken c.in_ok-take_record.ensures.room
