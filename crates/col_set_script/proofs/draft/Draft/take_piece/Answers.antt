use Rattle.std.proofs.Common.{◌≡◌, ◌<◌, length, false, sym, ◌∙◌, arith}
use Rattle.std.specs.Prelude.{◌==◌}
use Rattle.std.proofs.lemmas.Bool.{eqb-false, lt-ltb}
use Rattle.col_set_script.specs.Lines.{set_line_of}
use Rattle.col_set_script.proofs.DraftLemmas.{takes-piece}
use Rattle.col_set_script.proofs.draft.Draft.take_piece.Goals as goal

pub returns-in-Some : goal.returns-in-Some
returns-in-Some c =
    let piece = c.args.piece.now in
    let test : (length piece == 0) ≡ false = sym c.is_empty.ensures ∙ c.if-is_empty.false in
    let some : 0 < length piece = omega (arith, eqb-false (length piece) 0 test) in
    takes-piece c.args.self.now c.take.new.self piece (set_line_of c.in-Some.line) c.take.result
    (lt-ltb 0 (length piece) some) (sym (rw c.in-Some.is at c.in_ok-line.ensures)) c.take.ensures
