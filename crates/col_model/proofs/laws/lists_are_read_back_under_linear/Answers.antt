use Rattle.col_model.proofs.LinearLaws.{values64-linear}
use Rattle.col_model.proofs.laws.lists_are_read_back_under_linear.Goals as goal

pub returns : goal.returns
returns c = values64-linear
