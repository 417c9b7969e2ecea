use Rattle.std.proofs.Common.{arith}
use Rattle.col_column.specs.IpValues.{ip_values_of}
use Rattle.col_merge_slot.proofs.ReadLemmas.{addresses-read}
use Rattle.col_merge_slot.proofs.told.addresses_are_own.Goals as goal

pub returns : goal.returns
returns c =
    let column = c.args.column.now in
    addresses-read column.shape (ip_values_of column.values) c.max_value.result c.values_are_counted.ensures c.max_value.ensures.encloses
    (omega (arith, c.to_bits-greatest.ensures))
