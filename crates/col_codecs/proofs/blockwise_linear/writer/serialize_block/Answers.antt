use Rattle.col_codecs.specs.LinearParams.{params_seen}
use Rattle.col_codecs.proofs.BlockWritingLemmas.{trained-width, trained-small}
use Rattle.col_codecs.proofs.blockwise_linear.writer.serialize_block.Goals as goal

pub pack_block-requires-clause-width : goal.pack_block-requires-clause-width
pack_block-requires-clause-width g c =
    trained-width c.take_steps.new.vals c.train_offsets-params.new.vals (params_seen c.train_offsets-params.result)
    (record { slope = c.train_offsets-params.ensures.params; offsets_are = c.train_offsets-params.ensures.offsets })

pub pack_block-requires-clause-small : goal.pack_block-requires-clause-small
pack_block-requires-clause-small g c =
    trained-small c.take_steps.new.vals c.train_offsets-params.new.vals (params_seen c.train_offsets-params.result)
    (record { slope = c.train_offsets-params.ensures.params; offsets_are = c.train_offsets-params.ensures.offsets })
