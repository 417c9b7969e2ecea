use Rattle.std.proofs.Common.{◌≡◌, ◌+◌, ◌∷◌, List, map, drop, sym, ◌∙◌, ap, arith}
use Rattle.std.proofs.lemmas.List.{drop_more}
use Rattle.serde_json.specs.View.{view}
use Rattle.serde_json.specs.declared.value.Value.{Value}
use Rattle.col_model.specs.File.{for_each}
use Rattle.col_program.specs.Values.{as_u32}
use Rattle.col_set_script.proofs.IdLemmas.{more_ids}
use Rattle.col_set_script.proofs.ids.ids_of.Goals as goal

pub values-preserved : goal.values-preserved
values-preserved c =
    let vs : List Value = c.args.values.now in
    let split : drop c.values.value-index vs ≡ c.value-item.result ∷ drop (c.values.value-index + 1) vs =
    drop_more vs c.values.value-index c.value-item.result (omega (arith, c.values-test.true))
    ∙ ap (λ v. v ∷ drop (c.values.value-index + 1) vs) (sym c.value-item.is) in
    more_ids vs c.values.value-index c.value-item.result c.values.ids.items c.push.new.self.items c.in-Some.id
    (for_each as_u32 (map view vs)) split c.in-Some.ensures c.in_ok-push.ensures.items c.values.invariant
