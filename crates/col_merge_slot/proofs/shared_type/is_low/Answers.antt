use Rattle.std.proofs.Common.{sym}
use Rattle.col_merge_slot.proofs.BoundLemmas.{other-low}
use Rattle.col_merge_slot.proofs.shared_type.is_low.Goals as goal

pub returns-in_default : goal.returns-in_default
returns-in_default c = sym (other-low c.args.column.now c.in_default.not-I64)
