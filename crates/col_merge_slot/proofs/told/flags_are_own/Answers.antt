use Rattle.col_numbers.specs.NumValues.{num_values_of}
use Rattle.col_merge_slot.proofs.OwnLemmas.{flags-own}
use Rattle.col_merge_slot.proofs.told.flags_are_own.Goals as goal

pub returns : goal.returns
returns c = flags-own c.args.column.now.shape (num_values_of c.args.column.now.values) c.values_are_counted.ensures
