use Rattle.std.proofs.Common.{take, ◌^◌}
use Rattle.col_common.specs.Ascending.{AreBelow}
use Rattle.col_writer_columns.proofs.ranges.addresses_fit.Given as goal

-- the addresses so far fit
abbrev pub invariant-loop-address : goal.invariant-loop-address
invariant-loop-address l = AreBelow (2 ^ 128) (take l.address-index l.addresses)
