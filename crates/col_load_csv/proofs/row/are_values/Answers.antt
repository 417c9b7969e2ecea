use Rattle.std.proofs.Common.{sym, ◌∙◌, arith}
use Rattle.csv.specs.Records.{fields_of}
use Rattle.col_load_csv.proofs.RowLemmas.{all_ok, one_bad, one_ok, pairs, parts_ok}
use Rattle.col_load_csv.proofs.row.are_values.Goals as goal

pub loop-place-init : goal.loop-place-init
loop-place-init c = sym (parts_ok (pairs c.args.columns.now (fields_of c.args.row.now)))

pub returns-then-not-branch : goal.returns-then-not-branch
returns-then-not-branch c =
    one_bad c.args.columns.now (fields_of c.args.row.now) c.requires c.loop-place.place c.index-columns-place.result
    c.field_at-field.result.now (omega arith) c.index-columns-place.is c.field_at-field.ensures c.loop-place.invariant
    (sym c.in_ok-is_value.ensures ∙ c.if-not-branch.true)

pub loop-place-preserved : goal.loop-place-preserved
loop-place-preserved c =
    one_ok c.args.columns.now (fields_of c.args.row.now) c.requires c.loop-place.place c.index-columns-place.result
    c.field_at-field.result.now (omega arith) c.index-columns-place.is c.field_at-field.ensures c.loop-place.invariant
    (sym c.in_ok-is_value.ensures ∙ c.if-not-branch.false)

pub returns : goal.returns
returns c =
    all_ok c.args.columns.now (fields_of c.args.row.now) c.requires c.loop-place.place (omega arith) c.loop-place.invariant
