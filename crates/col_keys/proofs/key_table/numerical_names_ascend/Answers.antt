use Rattle.std.proofs.Common.{ap}
use Rattle.col_common.specs.Ascending.{is_ascending}
use Rattle.col_keys.proofs.KeyLemmas.{numerical_names}
use Rattle.col_keys.proofs.key_table.numerical_names_ascend.Goals as goal

pub loop-entry-init : goal.loop-entry-init
loop-entry-init c = ap is_ascending (numerical_names c.args.keys.now)
