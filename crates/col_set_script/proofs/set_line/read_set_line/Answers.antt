use Rattle.std.proofs.Common.{sym, ◌∙◌}
use Rattle.col_lines.specs.Lines.{script_line_of}
use Rattle.col_set_script.proofs.WordLemmas.{same_spelled}
use Rattle.col_set_script.proofs.set_line.read_set_line.Goals as goal

pub returns-in-Some : goal.returns-in-Some
returns-in-Some c =
    c.segment_line.ensures ∙ sym (same_spelled c.args.piece.now (script_line_of c.in-Some.line) (rw c.in-Some.is at c.in_ok-line.ensures))
