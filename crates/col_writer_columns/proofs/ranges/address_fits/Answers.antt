use Rattle.std.proofs.Common.{arith}
use Rattle.col_writer_columns.proofs.ranges.address_fits.Goals as goal

pub returns : goal.returns
returns c = omega (arith, c.to_bits-bits.type_inv, c.to_bits-bits.ensures)
