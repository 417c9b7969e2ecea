use Rattle.std.proofs.Common.{ap, ◌∙◌, arith}
use Rattle.col_compact.proofs.PlaceLemmas.{below_place}
use Rattle.col_compact.proofs.code_hints.codes_near.Goals as goal

pub returns-clause-below : goal.returns-clause-below
returns-clause-below c =
    below_place (λ m. m.compact_start) c.args.ranges.now c.requires c.args.code c.args.hint
    c.index-ranges-hint.result (omega (arith, c.if-hint-eq0.false)) (omega (arith, c.if-hint-ranges.false)) (rw
    (c.compact_start.ensures ∙ ap (λ m. m.compact_start) c.index-ranges-hint.is) at c.if-compact_start-code.false)
