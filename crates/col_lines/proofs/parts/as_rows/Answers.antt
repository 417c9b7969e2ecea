use Rattle.std.proofs.Common.{ℕ, List, Option, ◌≡◌, sym, ◌∙◌, ap, subst, map, option_map}
use Rattle.std.specs.Prelude.{IfOk}
use Rattle.serde_json.specs.View.{view}
use Rattle.serde_json.specs.declared.value.Value.{Value}
use Rattle.serde_json.proofs.Views.{view-Array}
use Rattle.col_model.specs.File.{for_each}
use Rattle.col_program.specs.Script.{as_address}
use Rattle.col_order.specs.Orders.{address_of}
use Rattle.col_lines.specs.Parts.{rows_as}
use Rattle.col_lines.proofs.PartLemmas.{items_same}
use Rattle.col_lines.proofs.parts.as_rows.Goals as goal

pub returns-in-Array : goal.returns-in-Array
returns-in-Array c =
    let P : Option (List (ℕ × ℕ)) → Type 0 = λ o. IfOk c.rows_of.result (λ rows. option_map (λ v. map address_of v.items) rows ≡ o) in
    let same : for_each as_address (map view c.as_slice.result.now) ≡ rows_as (view c.args.value.now) =
    ap (λ vs. for_each as_address (map view vs)) c.as_slice.ensures.value
    ∙ sym (ap (for_each as_address) (items_same (map view c.in-Array.pairs.items)))
    ∙ sym (ap rows_as (view-Array c.in-Array.pairs))
    ∙ ap (λ (v : Value). rows_as (view v)) (sym c.in-Array.is) in
    subst P same c.rows_of.ensures
