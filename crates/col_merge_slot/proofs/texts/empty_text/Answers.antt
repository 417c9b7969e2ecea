use Rattle.col_merge_slot.proofs.TextPartLemmas.{empty-part}
use Rattle.col_merge_slot.proofs.texts.empty_text.Goals as goal

pub returns : goal.returns
returns c = empty-part c.args.num_rows c.empty.result c.empty.ensures.terms c.empty.ensures.shape
