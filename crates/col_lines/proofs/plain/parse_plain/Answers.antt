use Rattle.std.proofs.Common.{sym, ◌∙◌}
use Rattle.json.specs.Reads.{token_of}
use Rattle.col_lines.specs.Lines.{script_line_of}
use Rattle.col_lines.proofs.PlainLemmas.{each, spelled}
use Rattle.col_lines.proofs.plain.parse_plain.Goals as goal

pub returns-in-Some : goal.returns-in-Some
returns-in-Some c =
    let p = c.in-Some.parts in
    let cases = c.in-Ok.ensures.cases in
    each c.parse_parts.result
    (λ l. spelled p.word.now p.doc.now p.name.now c.args.piece.now c.in-Ok.text.now (token_of p.value) (script_line_of l)
    cases.1 cases.0 (sym c.in_ok-reader.ensures.ok ∙ c.in-Some.ensures))
    c.parse_parts.ensures
