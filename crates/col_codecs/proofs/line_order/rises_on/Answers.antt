use Rattle.std.proofs.Common.{◌<◌, ◌^◌, ◌∙◌, not, sym, ap, arith}
use Rattle.std.proofs.lemmas.Bool.{lt-leb}
use Rattle.col_codecs.specs.declared.line.Line.{Line}
use Rattle.col_codecs.proofs.LineOrderLemmas.{rises-flat, rises-whole}
use Rattle.col_codecs.proofs.line_order.rises_on.Goals as goal

pub returns-then-slope-ge-HALVES : goal.returns-then-slope-ge-HALVES
returns-then-slope-ge-HALVES c =
    let a = c.args in
    ap not c.turns_on.ensures
    ∙ rises-whole a.slope a.intercept a.count (omega arith) (omega arith) (omega arith) (omega arith)

pub returns-else-slope-ge-HALVES : goal.returns-else-slope-ge-HALVES
returns-else-slope-ge-HALVES c =
    let a = c.args in
    let l : Line = record { slope = a.slope; intercept = a.intercept } in
    let flat : a.slope < 2 ^ 32 = omega arith in
    lt-leb (2 ^ 32) a.slope flat ∙ sym (rises-flat l (omega arith) (omega arith) a.count (omega arith) flat)
