use Rattle.col_model.proofs.ChosenLaws.{values64-chosen}
use Rattle.col_model.proofs.laws.lists_are_read_back_under_the_chosen_codec.Goals as goal

pub returns : goal.returns
returns c = values64-chosen
