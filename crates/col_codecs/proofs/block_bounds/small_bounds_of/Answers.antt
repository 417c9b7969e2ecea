use Rattle.std.proofs.Common.{◌∙◌}
use Rattle.col_codecs.proofs.BoundLemmas.{so_far-more, bounds_whole}
use Rattle.col_codecs.proofs.block_bounds.small_bounds_of.Goals as goal

pub loop-value-preserved : goal.loop-value-preserved
loop-value-preserved c =
    so_far-more _ _ _ _ _ _ c.loop-value-test.true c.loop-value.invariant c.min-least.ensures c.max-greatest.ensures

pub returns : goal.returns
returns c =
    bounds_whole (record { least = c.into.result; greatest = c.into-2.result }) c.args.vals.now
    c.loop-value.value-index c.requires.some c.loop-value-test.false (c.into.ensures ∙ c.loop-value.invariant.least)
    (c.into-2.ensures ∙ c.loop-value.invariant.greatest)
