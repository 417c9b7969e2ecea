use Rattle.std.proofs.Common.{◌-◌}
use Rattle.col_facet.proofs.blocks.read_docs_block.Goals as goal
use Rattle.col_facet.proofs.DocLemmas.{rising-part, below-part}

pub push_values-requires-clause-rising : goal.push_values-requires-clause-rising
push_values-requires-clause-rising g c =
    rising-part (c.block_end-next.result - c.args.at) c.args.at c.args.docs.now c.requires.rising

pub push_values-requires-clause-below : goal.push_values-requires-clause-below
push_values-requires-clause-below g c =
    below-part _ (c.block_end-next.result - c.args.at) c.args.at c.args.docs.now c.requires.below
