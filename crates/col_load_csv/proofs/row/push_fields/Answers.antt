use Rattle.std.proofs.Common.{subst, arith}
use Rattle.std.proofs.lemmas.Result.{err_from_is_err_and}
use Rattle.csv.specs.Records.{fields_of}
use Rattle.col_documents.proofs.DocumentLemmas.{IsPut}
use Rattle.col_documents.proofs.JoinedLemmas.{all_put, more_put, none_put, part_refused}
use Rattle.col_documents.specs.Read.{IsRefusedAs}
use Rattle.col_load_csv.specs.Read.{column_read}
use Rattle.col_load_csv.proofs.RowLemmas.{joined_parts, many_pairs, pair_at, pair_within, pairs, part}
use Rattle.col_load_csv.proofs.row.push_fields.Goals as goal

pub loop-place-init : goal.loop-place-init
loop-place-init c = none_put part (pairs c.args.columns.now (fields_of c.args.row.now)) c.args.fields.now.items

pub returns-in_err-push_value : goal.returns-in_err-push_value
returns-in_err-push_value c =
    let p = err_from_is_err_and c.from_residual.result c.from_residual.ensures.1 in
    let columns = c.args.columns.now in
    let fields = fields_of c.args.row.now in
    let place = c.loop-place.place in
    let column = c.index-columns-place.result in
    let field = c.field_at-field.result.now in
    let e = c.in_err-push_value.field-0.0 in
    rw (p.1, p.2) (subst (IsRefusedAs e) (joined_parts (pairs columns fields)) (part_refused part (pairs columns fields) place
    (column_read column, field) c.args.fields.now.items c.loop-place.fields.items e
    (pair_within columns fields c.requires place column field (omega arith) c.index-columns-place.is c.field_at-field.ensures)
    (pair_at columns fields c.requires place column field (omega arith) c.index-columns-place.is c.field_at-field.ensures)
    c.loop-place.invariant c.in_err-push_value.ensures))

pub loop-place-preserved : goal.loop-place-preserved
loop-place-preserved c =
    let columns = c.args.columns.now in
    let fields = fields_of c.args.row.now in
    let place = c.loop-place.place in
    let column = c.index-columns-place.result in
    let field = c.field_at-field.result.now in
    more_put part (pairs columns fields) place (column_read column, field) c.args.fields.now.items c.loop-place.fields.items
    c.push_value.new.fields.items
    (pair_within columns fields c.requires place column field (omega arith) c.index-columns-place.is c.field_at-field.ensures)
    (pair_at columns fields c.requires place column field (omega arith) c.index-columns-place.is c.field_at-field.ensures)
    c.loop-place.invariant c.in_ok-push_value.ensures

pub returns : goal.returns
returns c =
    let columns = c.args.columns.now in
    let fields = fields_of c.args.row.now in
    let many = many_pairs columns fields c.requires in
    subst (IsPut c.args.fields.now.items c.loop-place.fields.items) (joined_parts (pairs columns fields))
    (all_put part (pairs columns fields) c.loop-place.place c.args.fields.now.items c.loop-place.fields.items
    (omega (arith, many)) c.loop-place.invariant)
