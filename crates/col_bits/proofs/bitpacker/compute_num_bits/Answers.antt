use Rattle.col_bits.proofs.WidthLemmas.{num_bits-small, num_bits-large}
use Rattle.col_bits.proofs.bitpacker.compute_num_bits.Goals as goal

pub returns-then-digits-le-MAX_SMALL_WIDTH : goal.returns-then-digits-le-MAX_SMALL_WIDTH
returns-then-digits-le-MAX_SMALL_WIDTH c = num_bits-small c.args.n c.ranges.n.fits c.if-digits-le-MAX_SMALL_WIDTH.true

pub returns-else-digits-le-MAX_SMALL_WIDTH : goal.returns-else-digits-le-MAX_SMALL_WIDTH
returns-else-digits-le-MAX_SMALL_WIDTH c = num_bits-large c.args.n c.ranges.n.fits c.if-digits-le-MAX_SMALL_WIDTH.false
