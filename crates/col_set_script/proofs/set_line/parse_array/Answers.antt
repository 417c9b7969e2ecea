use Rattle.std.proofs.Common.{Option, ◌≡◌, sym, ◌∙◌, ap, subst, map, option_map, option_and_then}
use Rattle.std.specs.Prelude.{IfOk}
use Rattle.serde_json.specs.View.{view}
use Rattle.serde_json.specs.declared.value.Value.{Value}
use Rattle.serde_json.proofs.Views.{view-Array}
use Rattle.col_program.specs.Values.{as_list}
use Rattle.col_lines.proofs.PartLemmas.{items_same}
use Rattle.col_set_script.specs.SetScripts.{SetLine, set_line_among}
use Rattle.col_set_script.specs.Lines.{set_line_of}
use Rattle.col_set_script.proofs.set_line.parse_array.Goals as goal

pub returns-in-Array : goal.returns-in-Array
returns-in-Array c =
    let P : Option SetLine → Type 0 = λ o. IfOk c.parse_items.result (λ line. option_map set_line_of line ≡ o) in
    let same : set_line_among (map view c.as_mut_slice.result.now) ≡ option_and_then set_line_among (as_list (view c.args.value)) =
    ap (λ vs. set_line_among (map view vs)) c.as_mut_slice.ensures.value
    ∙ sym (ap set_line_among (items_same (map view c.in-Array.items.items)))
    ∙ sym (ap (λ d. option_and_then set_line_among (as_list d)) (view-Array c.in-Array.items))
    ∙ ap (λ (v : Value). option_and_then set_line_among (as_list (view v))) (sym c.in-Array.is) in
    subst P same c.parse_items.ensures
