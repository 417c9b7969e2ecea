use Rattle.std.proofs.Common.{is_lt, length, sym, ◌∙◌, ap, arith}
use Rattle.std.proofs.lemmas.Bool.{eqb-false}
use Rattle.col_facet.proofs.top.is_behind.Goals as goal
use Rattle.col_facet.proofs.BestLemmas.{behind-ranked}

pub returns : goal.returns
returns c = λ h.
    behind-ranked c.args.best.now c.args.one.now c.index-best-best.result c.requires
    (omega (arith, eqb-false (length c.args.best.now) 0 (sym (c.if-is_empty.ensures {u = tt}))))
    c.index-best-best.is (ap is_lt (sym c.cmp.ensures) ∙ sym c.is_lt.ensures ∙ h)
