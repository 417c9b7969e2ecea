use Rattle.std.proofs.Common.{◌∙◌, arith}
use Rattle.std.proofs.lemmas.Result.{err_from_is_err_and}
use Rattle.csv.specs.Records.{fields_of}
use Rattle.col_csv_import.proofs.FillLemmas.{filling-end, filling-more, filling-refused, filling-room, filling-start}
use Rattle.col_csv_import.proofs.TakeLemmas.{row-numbered, row-refused}
use Rattle.col_csv_import.proofs.records.take_record.Goals as goal

pub loop-place-init : goal.loop-place-init
loop-place-init c = filling-start c.args.row (fields_of c.args.fields.now) c.args.columns.now c.requires.room

pub take_field-requires-clause-room : goal.take_field-requires-clause-room
take_field-requires-clause-room c =
    filling-room c.args.row (fields_of c.args.fields.now) _ _ c.loop-place.place c.loop-place.invariant (omega arith)
    c.index-columns-place.result

pub returns-in_err-take_field-clause-taken : goal.returns-in_err-take_field-clause-taken
returns-in_err-take_field-clause-taken c =
    let p = err_from_is_err_and c.from_residual.result c.from_residual.ensures.1 in
    rw (p.1, p.2) (row-refused c.args.row (fields_of c.args.fields.now) _ c.is_row_number_at.result _ c.is_row_number_at.ensures
    c.if-not-is_row_number_at.false
    (filling-refused c.args.row (fields_of c.args.fields.now) _ _ c.loop-place.place c.loop-place.invariant (omega arith)
    c.index-columns-place.result _ (rw c.field_at-field.ensures at c.in_err-take_field.ensures)))

pub loop-place-preserved : goal.loop-place-preserved
loop-place-preserved c =
    filling-more c.args.row (fields_of c.args.fields.now) _ _ c.loop-place.place c.loop-place.invariant (omega arith)
    c.index-columns-place.result c.take_field.new.self (rw c.field_at-field.ensures at c.in_ok-take_field.ensures)

pub returns-clause-taken : goal.returns-clause-taken
returns-clause-taken c =
    row-numbered c.args.row (fields_of c.args.fields.now) _ c.is_row_number_at.result c.is_row_number_at.ensures
    c.if-not-is_row_number_at.false
    ∙ (filling-end c.args.row (fields_of c.args.fields.now) _ _ c.loop-place.place (omega arith) c.loop-place.invariant).made

pub returns-clause-room : goal.returns-clause-room
returns-clause-room c =
    (filling-end c.args.row (fields_of c.args.fields.now) _ _ c.loop-place.place (omega arith) c.loop-place.invariant).room
