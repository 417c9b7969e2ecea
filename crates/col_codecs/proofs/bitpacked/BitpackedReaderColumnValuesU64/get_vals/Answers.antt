use Rattle.std.proofs.Common.{◌+◌, ◌*◌, map, Some, ap, ◌∙◌}
use Rattle.col_bits.specs.Packed.{item}
use Rattle.col_model.proofs.StatsLaws.{map-map}
use Rattle.col_codecs.proofs.BitpackedLemmas.{at-read}
use Rattle.col_codecs.proofs.bitpacked.BitpackedReaderColumnValuesU64.get_vals.Goals as goal

pub read_vals-requires-clause-fit : goal.read_vals-requires-clause-fit
read_vals-requires-clause-fit c =
    (at-read _ _ _ _ _ _ c.self.view_is c.self.invariant.0 c.as_slice-bytes.ensures c.requires.below).0

pub returns : goal.returns
returns c =
    let r = c.self.inside in
    ap (map Some) c.read_vals.ensures
    ∙ map-map (λ i. r.stats.min_value + r.stats.gcd * item c.as_slice-bytes.result.now r.bit_unpacker i) Some c.args.indexes.now
    ∙ (at-read _ _ _ _ _ _ c.self.view_is c.self.invariant.0 c.as_slice-bytes.ensures c.requires.below).1
