use Rattle.std.proofs.Common.{ap, ◌∙◌, arith}
use Rattle.col_compact.proofs.PlaceLemmas.{above_place}
use Rattle.col_compact.proofs.code_hints.codes_upto.Goals as goal

pub returns-then-compact_start-code-clause-split : goal.returns-then-compact_start-code-clause-split
returns-then-compact_start-code-clause-split c =
    let within = c.loop-tried.invariant.within in
    let not_all = c.if-upto-ranges.false in (
      c.loop-tried.invariant.below,
      above_place (λ m. m.compact_start) c.args.ranges.now c.requires c.args.code c.loop-tried.upto
          c.index-ranges-upto.result (omega (arith, within, not_all)) (rw
          (c.compact_start.ensures ∙ ap (λ m. m.compact_start) c.index-ranges-upto.is) at
          c.if-compact_start-code.true),
    )
