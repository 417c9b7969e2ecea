use Rattle.std.proofs.Common.{◌∙◌, sym, arith}
use Rattle.col_codecs.specs.declared.line.Line.{Line}
use Rattle.col_codecs.proofs.LineOrderLemmas.{stays-short, stays-whole, falls-whole}
use Rattle.col_codecs.proofs.line_order.never_falls_on.Goals.{then-count-le1-via-then-count-le1, then-count-le1-via-else-count-le1+then-not-turns_on}
use Rattle.col_codecs.proofs.line_order.never_falls_on.Goals as goal

pub returns-then-count-le1 : goal.returns-then-count-le1
returns-then-count-le1 c =
    let a = c.args in
    let l : Line = record { slope = a.slope; intercept = a.intercept } in
    elim c.then-count-le1.branch [
      | then-count-le1-via-then-count-le1 w ↦ sym (stays-short l a.count (omega (arith, w.if-count-le1.true)))
      | then-count-le1-via-else-count-le1+then-not-turns_on w ↦
          stays-whole a.slope a.intercept a.count (omega arith) (omega arith) (omega (arith, w.if-count-le1.false))
          (sym w.turns_on.ensures ∙ w.if-not-turns_on.true)
    ]

pub returns : goal.returns
returns c =
    let a = c.args in
    falls-whole a.slope a.intercept a.count (omega arith) (omega arith) (omega arith)
    (sym c.turns_on.ensures ∙ c.if-not-turns_on.false) (omega arith)
