use Rattle.col_bits.proofs.GroupLemmas.{item_in_group}
use Rattle.col_bits.proofs.const_width.in_group.Goals as goal

pub returns-clause-value : goal.returns-clause-value
returns-clause-value g c = item_in_group c.args.data.now c.args.group c.args.k g.row.W c.word.result c.requires.width c.word.ensures
