use Rattle.std.proofs.Common.{◌+◌, ◌*◌, ◌≤◌, length, map, ap, ◌∙◌, arith}
use Rattle.col_codecs.specs.ColumnStats.{stats_seen}
use Rattle.col_codecs.proofs.BitpackedLemmas.{length-bitpacked_items, part-fits, part-read}
use Rattle.col_codecs.proofs.bitpacked.BitpackedReaderColumnValuesU64.get_range.Goals as goal

pub overflow_cast-start : goal.overflow_cast-start
overflow_cast-start c =
    let r = c.self.inside in
    omega (arith, c.requires, ap length c.self.view_is, length-bitpacked_items (stats_seen r.stats) r.data)

pub get_range-requires : goal.get_range-requires
get_range-requires c =
    let r = c.self.inside in
    omega (arith, c.requires, ap length c.self.view_is, length-bitpacked_items (stats_seen r.stats) r.data)

pub take_values-requires : goal.take_values-requires
take_values-requires c =
    let r = c.self.inside in
    let within : c.args.start + length c.args.output.now ≤ r.stats.num_rows =
    omega (arith, c.requires, ap length c.self.view_is, length-bitpacked_items (stats_seen r.stats) r.data) in
    rw c.get_range.ensures (part-fits (stats_seen r.stats) r.data c.as_slice.result.now r.bit_unpacker c.args.start
    (length c.args.output.now) c.self.invariant.0 c.as_slice.ensures within)

pub returns : goal.returns
returns c =
    let r = c.self.inside in
    let s = stats_seen r.stats in
    let within : c.args.start + length c.args.output.now ≤ r.stats.num_rows =
    omega (arith, c.requires, ap length c.self.view_is, length-bitpacked_items s r.data) in
    c.take_values.ensures
    ∙ ap (map (λ k. s.least + s.divisor * k)) c.get_range.ensures
    ∙ part-read s r.data c.as_slice.result.now c.args.self.now r.bit_unpacker c.args.start
    (length c.args.output.now) c.self.view_is c.self.invariant.0 c.as_slice.ensures within
