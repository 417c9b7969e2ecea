use Rattle.std.proofs.Common.{ℕ, List, Option, ◌≡◌, sym, ◌∙◌, ap, subst, map, option_map}
use Rattle.std.specs.Prelude.{IfOk}
use Rattle.serde_json.specs.View.{view}
use Rattle.serde_json.specs.declared.value.Value.{Value}
use Rattle.serde_json.proofs.Views.{view-Array}
use Rattle.col_model.specs.File.{for_each}
use Rattle.col_program.specs.Values.{as_u32}
use Rattle.col_lines.proofs.PartLemmas.{items_same}
use Rattle.col_set_script.specs.Lines.{ids_as}
use Rattle.col_set_script.proofs.ids.as_ids.Goals as goal

pub returns-in-Array : goal.returns-in-Array
returns-in-Array c =
    let P : Option (List ℕ) → Type 0 = λ o. IfOk c.ids_of.result (λ ids. option_map (λ v. v.items) ids ≡ o) in
    let same : for_each as_u32 (map view c.as_slice.result.now) ≡ ids_as (view c.args.value.now) =
    ap (λ vs. for_each as_u32 (map view vs)) c.as_slice.ensures.value
    ∙ sym (ap (for_each as_u32) (items_same (map view c.in-Array.ids.items)))
    ∙ sym (ap ids_as (view-Array c.in-Array.ids))
    ∙ ap (λ (v : Value). ids_as (view v)) (sym c.in-Array.is) in
    subst P same c.ids_of.ensures
