use Rattle.std.proofs.Common.{◌∙◌, sym, ap, arith, Some}
use Rattle.col_keys.proofs.KeyLemmas.{name_of-text, name_of-no_text}
use Rattle.col_keys.proofs.key_table.name_of.Goals as goal

pub returns-in-Ok : goal.returns-in-Ok
returns-in-Ok c = ap Some c.in-Ok.ensures.cases.0 ∙ sym (name_of-text c.args.bytes.now (grind arith) c.in-Ok.ensures.cases.1)

pub returns-in-Err : goal.returns-in-Err
returns-in-Err c = sym (name_of-no_text c.args.bytes.now c.in-Err.ensures.cases.0)
