use Rattle.std.proofs.Common.{◌≡◌, ◌+◌, ◌∷◌, List, map, drop, sym, ◌∙◌, ap, arith}
use Rattle.std.proofs.lemmas.List.{drop_more}
use Rattle.serde_json.specs.View.{view}
use Rattle.serde_json.specs.declared.value.Value.{Value}
use Rattle.col_model.specs.File.{for_each}
use Rattle.col_program.specs.Script.{as_address}
use Rattle.col_lines.proofs.PartLemmas.{more_rows}
use Rattle.col_lines.proofs.parts.rows_of.Goals as goal

pub values-preserved : goal.values-preserved
values-preserved c =
    let vs : List Value = c.args.values.now in
    let split : drop c.values.value-index vs ≡ c.value-item.result ∷ drop (c.values.value-index + 1) vs =
    drop_more vs c.values.value-index c.value-item.result (omega (arith, c.values-test.true))
    ∙ ap (λ v. v ∷ drop (c.values.value-index + 1) vs) (sym c.value-item.is) in
    more_rows vs c.values.value-index c.value-item.result c.values.rows.items c.push.new.self.items c.in-Some.row
    (for_each as_address (map view vs)) split c.in-Some.ensures c.in_ok-push.ensures.items c.values.invariant
