use Rattle.std.proofs.Common.{◌+◌, drop, length, map, ap, ◌∙◌, arith}
use Rattle.std.proofs.lemmas.Result.{err_from_is_err_and}
use Rattle.csv.specs.Reading.{strip_bom}
use Rattle.csv.specs.Records.{fields_of}
use Rattle.col_load_csv.specs.Documents.{text_records}
use Rattle.col_load_csv.specs.Read.{column_read}
use Rattle.col_load_csv.proofs.ReaderLemmas.{found_some}
use Rattle.col_load_csv.proofs.TakingLemmas.{counted_past, rows_behind, taking_more, taking_none, taking_past, taking_stopped}
use Rattle.col_load_csv.proofs.take.take_records.Goals as goal

pub loop-init : goal.loop-init
loop-init c =
    let text = c.args.text.now in
    let old = c.reader_of-reader.result in
    let new = c.read_next.new.reader in
    let names = fields_of c.read_next.new.row in
    let took = found_some old new names c.in_ok-read_next.field-0 c.if-not-branch.false c.in_ok-read_next.ensures in
    taking_none (map column_read c.args.columns.now) c.args.skips (drop 1 (text_records text)) (length (strip_bom text)) new
    record { rows = c.new.result; counts = c.with_line.result } took.reading c.new.ensures
    (c.with_line.ensures ∙ ap (λ p. (p.0 + 1, p.1)) c.none.ensures) (rows_behind text old new names c.reader_of-reader.ensures.left took)

pub returns-in_err-take_record-clause-err : goal.returns-in_err-take_record-clause-err
returns-in_err-take_record-clause-err c =
    let p = err_from_is_err_and c.from_residual-in_err-take_record.result c.from_residual-in_err-take_record.ensures.1 in
    let text = c.args.text.now in
    let new = c.read_next-in-loop.new.reader in
    let fields = fields_of c.read_next-in-loop.new.row in
    rw (p.1, p.2) (taking_stopped (map column_read c.args.columns.now) c.args.skips (drop 1 (text_records text)) (length (strip_bom text))
    c.loop.counter c.loop.reader c.loop.taken c.loop.invariant (omega (arith, c.loop-test.true, c.most_records-end.ensures)) new fields
    (found_some c.loop.reader new fields c.in_ok-read_next-2.field-0 c.if-not-branch-2.false c.in_ok-read_next-2.ensures)
    c.in_err-take_record.field-0.0 c.in_err-take_record.ensures.err)

pub loop-preserved : goal.loop-preserved
loop-preserved c =
    let text = c.args.text.now in
    let new = c.read_next-in-loop.new.reader in
    let fields = fields_of c.read_next-in-loop.new.row in
    taking_more (map column_read c.args.columns.now) c.args.skips (drop 1 (text_records text)) (length (strip_bom text)) c.loop.counter
    c.loop.reader c.loop.taken c.loop.invariant (omega (arith, c.loop-test.true, c.most_records-end.ensures)) new fields
    (found_some c.loop.reader new fields c.in_ok-read_next-2.field-0 c.if-not-branch-2.false c.in_ok-read_next-2.ensures)
    c.take_record.new.self c.in_ok-take_record.ensures.ok

pub returns-clause-ok : goal.returns-clause-ok
returns-clause-ok c =
    let text = c.args.text.now in
    taking_past (map column_read c.args.columns.now) c.args.skips (drop 1 (text_records text)) (length (strip_bom text)) c.loop.counter
    c.loop.reader c.loop.taken c.loop.invariant (omega (arith, c.loop-test.false, c.most_records-end.ensures))

pub returns-clause-counts : goal.returns-clause-counts
returns-clause-counts c =
    let text = c.args.text.now in
    counted_past (map column_read c.args.columns.now) c.args.skips (drop 1 (text_records text)) (length (strip_bom text)) c.loop.counter
    c.loop.reader c.loop.taken c.loop.invariant (omega (arith, c.loop-test.false, c.most_records-end.ensures))
