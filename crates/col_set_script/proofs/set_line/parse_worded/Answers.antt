use Rattle.std.proofs.Common.{Option, ◌≡◌, sym, subst, map, option_map}
use Rattle.std.specs.Prelude.{IfOk}
use Rattle.serde_json.specs.View.{view}
use Rattle.col_set_script.specs.SetScripts.{SetLine}
use Rattle.col_set_script.specs.Lines.{set_line_of}
use Rattle.col_set_script.proofs.WordLemmas.{other_line}
use Rattle.col_set_script.proofs.set_line.parse_worded.Goals as goal

pub returns-in_default-word : goal.returns-in_default-word
returns-in_default-word c =
    let P : Option SetLine → Type 0 = λ o. IfOk c.parse_segment_line.result (λ line. option_map set_line_of line ≡ o) in
    let w = c.in_default-word in
    subst P (sym (other_line (view c.args.head.now) (map view c.args.rest.now) c.in-Some.word.now (sym c.in-Some.ensures)
    w.not-drop w.not-compact w.not-find)) c.parse_segment_line.ensures
