use Rattle.std.proofs.Common.{◌∷◌, [], decimal, ap, arith, subst}
use Rattle.col_model.specs.Lookup.{row_of}
use Rattle.col_csv.specs.Csv.{field_of}
use Rattle.col_csv_export.specs.Putting.{HasFields}
use Rattle.col_opened.specs.Opened.{column_of}
use Rattle.col_dynamic.specs.Dynamic.{type_of, content_of}
use Rattle.col_csv_export.proofs.RecordLemmas.{fields-more, fields-all, map-through}
use Rattle.col_csv_export.proofs.records.fill_row.Goals as goal

pub loop-named-init : goal.loop-named-init
loop-named-init c =
    c.in_ok-add_row_number.ensures [] (record { whole = c.clear.ensures.fields; done = c.clear.ensures.partial })

pub loop-named-preserved : goal.loop-named-preserved
loop-named-preserved c =
    fields-more (λ n. field_of (type_of n.column) (row_of (content_of n.column) c.args.row)) (decimal c.args.row ∷ [])
    c.args.columns.now _ _ c.loop-named.named-index c.named-item.result (omega arith) c.named-item.is
    c.loop-named.invariant c.in_ok-add_value.ensures

pub returns : goal.returns
returns c =
    subst (HasFields _) (ap (λ fs. decimal c.args.row ∷ fs)
    (map-through (λ n. field_of n.column_type (row_of n.content c.args.row)) column_of c.args.columns.now))
    (fields-all (λ n. field_of (type_of n.column) (row_of (content_of n.column) c.args.row)) (decimal c.args.row ∷ [])
    c.args.columns.now _ c.loop-named.named-index (omega arith) c.loop-named.invariant)
