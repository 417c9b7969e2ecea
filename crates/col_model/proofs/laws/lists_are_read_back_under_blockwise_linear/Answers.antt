use Rattle.col_model.proofs.BlockLaws.{values64-blockwise}
use Rattle.col_model.proofs.laws.lists_are_read_back_under_blockwise_linear.Goals as goal

pub returns : goal.returns
returns c = values64-blockwise
