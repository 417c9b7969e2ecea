use Rattle.col_index.proofs.OpeningLemmas.{formed_set-none}
use Rattle.col_index.proofs.open.first_form.Goals as goal

pub returns-in_default-clause-none : goal.returns-in_default-clause-none
returns-in_default-clause-none c = formed_set-none c.args.bytes.now c.in_default.len_below
