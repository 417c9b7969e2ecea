use Rattle.std.proofs.Common.{◌<◌, ◌+◌, ◌*◌, ◌^◌, arith}
use Rattle.col_codecs.specs.ColumnStats.{stats_seen}
use Rattle.col_codecs.proofs.BitpackedLemmas.{reads-at}
use Rattle.col_codecs.proofs.bitpacked.BitpackedReaderColumnValuesU64.get_val.Goals as goal

fits : (c : goal.After-get-step) → c.self.inside.stats.min_value + c.self.inside.stats.gcd * c.get-step.result < 2 ^ 64
fits c =
    (reads-at (stats_seen c.self.inside.stats) c.self.inside.data c.as_slice.result.now c.args.self.now
    c.self.inside.bit_unpacker c.args.idx c.get-step.result c.self.view_is c.self.invariant.0 c.as_slice.ensures
    c.get-step.ensures.value c.requires).0

pub overflow_mul-result : goal.overflow_mul-result
overflow_mul-result c = omega (arith, fits c)

pub overflow_add-result : goal.overflow_add-result
overflow_add-result c = omega (arith, fits c)

pub returns : goal.returns
returns c =
    (reads-at (stats_seen c.self.inside.stats) c.self.inside.data c.as_slice.result.now c.args.self.now
    c.self.inside.bit_unpacker c.args.idx c.get-step.result c.self.view_is c.self.invariant.0 c.as_slice.ensures
    c.get-step.ensures.value c.requires).1
