use Rattle.std.proofs.Common.{◌∙◌}
use Rattle.col_terms.proofs.HeadLemmas.{head_spelled}
use Rattle.col_terms.proofs.table.head.Goals as goal

pub returns-clause-number : goal.returns-clause-number
returns-clause-number c = c.from_be_bytes.ensures ∙ head_spelled c.args.bytes.now
