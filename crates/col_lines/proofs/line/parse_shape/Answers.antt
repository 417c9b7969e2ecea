use Rattle.std.proofs.Common.{Option, ◌≡◌, sym, subst, map, option_map}
use Rattle.std.specs.Prelude.{IfOk}
use Rattle.serde_json.specs.View.{view}
use Rattle.col_program.specs.Script.{Line}
use Rattle.col_types.specs.Kinds.{kind_of}
use Rattle.col_lines.specs.Lines.{script_line_of}
use Rattle.col_lines.proofs.WordLemmas.{line_of_value, line_of_control}
use Rattle.col_lines.proofs.line.parse_shape.Goals as goal

pub returns-in-Some : goal.returns-in-Some
returns-in-Some c =
    let P : Option Line → Type 0 = λ o. IfOk c.parse_value.result (λ line. option_map script_line_of line ≡ o) in
    subst P (sym (line_of_value (view c.args.head.now) (map view c.args.rest.now) (kind_of c.in-Some.column_type)
    (sym c.in-Some.ensures))) c.parse_value.ensures

pub returns-in-None : goal.returns-in-None
returns-in-None c =
    let P : Option Line → Type 0 = λ o. IfOk c.parse_control.result (λ line. option_map script_line_of line ≡ o) in
    subst P (sym (line_of_control (view c.args.head.now) (map view c.args.rest.now) (sym c.in-None.ensures))) c.parse_control.ensures
