use Rattle.std.proofs.Common.{arith}
use Rattle.std.proofs.lemmas.Bool.{eqb-true}
use Rattle.col_codecs.proofs.BoundLemmas.{each_small, above-more}
use Rattle.col_codecs.proofs.block_bounds.are_small.Goals as goal

pub loop-value-preserved : goal.loop-value-preserved
loop-value-preserved c =
    above-more c.args.vals.now c.loop-value.value-index c.loop-value.greatest c.max-greatest.result
    c.loop-value.invariant (grind (arith, c.max-greatest.ensures)) (grind (arith, c.max-greatest.ensures))

pub returns : goal.returns
returns c = λ none.
    each_small c.args.vals.now (λ k within. omega
    (arith, eqb-true _ _ none, c.loop-value.invariant k (omega (arith, within, c.loop-value-test.false))))
