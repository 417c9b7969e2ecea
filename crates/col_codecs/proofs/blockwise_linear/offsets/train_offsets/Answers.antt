use Rattle.std.proofs.Common.{◌∙◌}
use Rattle.col_codecs.proofs.BlockOffsetLemmas.{block_line-held, offsets-held}
use Rattle.col_codecs.proofs.blockwise_linear.offsets.train_offsets.Goals as goal

pub returns-clause-params : goal.returns-clause-params
returns-clause-params c =
    block_line-held c.train_block-line.result c.args.vals.now c.take_offsets-greatest.new.vals
    c.take_offsets-greatest.result c.compute_num_bits.result c.train_block-line.ensures
    c.take_offsets-greatest.ensures.offsets c.take_offsets-greatest.ensures.greatest c.compute_num_bits.ensures

pub returns-clause-offsets : goal.returns-clause-offsets
returns-clause-offsets c =
    c.take_offsets-greatest.ensures.offsets
    ∙ offsets-held c.train_block-line.result c.args.vals.now c.train_block-line.ensures
