use Rattle.col_tool.proofs.WordLemmas.{three-words, fewer-words}
use Rattle.col_tool.proofs.words.number_asked.Goals as goal

pub returns-in-len3 : goal.returns-in-len3
returns-in-len3 c =
    three-words c.args.words.now c.args.inputs c.command-item.result c.number-item.result c.number_behind.result
    c.in-len3.len_at_least c.in-len3.len_below c.command-item.is c.number-item.is
    (rw (c.as_str.ensures.value, c.as_str-in-len3.ensures.value) at c.number_behind.ensures)

pub returns-in_default : goal.returns-in_default
returns-in_default c = fewer-words c.args.words.now c.args.inputs c.in_default.len_below
