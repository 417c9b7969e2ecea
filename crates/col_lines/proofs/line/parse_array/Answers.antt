use Rattle.std.proofs.Common.{Option, ◌≡◌, sym, ◌∙◌, ap, subst, map, option_map, option_and_then}
use Rattle.std.specs.Prelude.{IfOk}
use Rattle.serde_json.specs.View.{view}
use Rattle.serde_json.specs.declared.value.Value.{Value}
use Rattle.serde_json.proofs.Views.{view-Array}
use Rattle.col_program.specs.Script.{Line, line_among, shapes}
use Rattle.col_program.specs.Values.{as_list}
use Rattle.col_lines.specs.Lines.{script_line_of}
use Rattle.col_lines.proofs.PartLemmas.{items_same}
use Rattle.col_lines.proofs.line.parse_array.Goals as goal

pub returns-in-Array : goal.returns-in-Array
returns-in-Array c =
    let P : Option Line → Type 0 = λ o. IfOk c.parse_items.result (λ line. option_map script_line_of line ≡ o) in
    let same : line_among shapes (map view c.as_mut_slice.result.now) ≡ option_and_then (line_among shapes) (as_list (view c.args.value)) =
    ap (λ vs. line_among shapes (map view vs)) c.as_mut_slice.ensures.value
    ∙ sym (ap (line_among shapes) (items_same (map view c.in-Array.items.items)))
    ∙ sym (ap (λ d. option_and_then (line_among shapes) (as_list d)) (view-Array c.in-Array.items))
    ∙ ap (λ (v : Value). option_and_then (line_among shapes) (as_list (view v))) (sym c.in-Array.is) in
    subst P same c.parse_items.ensures
