use Rattle.std.proofs.Common.{◌∷◌, [], codes, ap, arith, subst}
use Rattle.col_csv.specs.Csv.{heading}
use Rattle.col_csv_export.specs.Putting.{HasFields}
use Rattle.col_opened.specs.Opened.{column_of}
use Rattle.col_csv_export.proofs.RecordLemmas.{first-field, fields-more, fields-all, map-through}
use Rattle.col_csv_export.proofs.records.fill_header.Goals as goal

pub loop-named-init : goal.loop-named-init
loop-named-init c =
    first-field _ _ (codes "#") _ c.clear.ensures.fields c.clear.ensures.partial c.in_ok-push_field.ensures.fields
    c.in_ok-push_field.ensures.partial

pub loop-named-preserved : goal.loop-named-preserved
loop-named-preserved c =
    fields-more (λ n. heading (column_of n)) (codes "#" ∷ []) c.args.columns.now _ _ c.loop-named.named-index
    c.named-item.result (omega arith) c.named-item.is c.loop-named.invariant c.in_ok-add_heading.ensures

pub returns : goal.returns
returns c =
    subst (HasFields _) (ap (λ fs. codes "#" ∷ fs) (map-through heading column_of c.args.columns.now))
    (fields-all (λ n. heading (column_of n)) (codes "#" ∷ []) c.args.columns.now _ c.loop-named.named-index (omega arith)
    c.loop-named.invariant)
