use Rattle.std.proofs.Common.{ℕ, List, ◌+◌, ◌-◌, ◌*◌, ◌∙◌, subst}
use Rattle.col_common.specs.Replacing.{Replaces}
use Rattle.col_bits.specs.Packed.{item}
use Rattle.col_values.specs.Codes.{number_cmp}
use Rattle.col_values.specs.Values.{hits_between}
use Rattle.col_codecs.specs.ColumnStats.{stats_seen}
use Rattle.col_codecs.proofs.BoundedItemLemmas.{ids_by-rise}
use Rattle.col_codecs.proofs.FoundLemmas.{found_decoded, replaces-rise}
use Rattle.col_codecs.proofs.bitpacked.BitpackedReader.get_row_ids_counted.Goals as goal

pub returns-clause-ok : goal.returns-clause-ok
returns-clause-ok g c =
    let r = c.self.inside in
    let ends = c.into_inner-low.ensures in
    let from = c.args.row_ids.start in
    let to = c.args.row_ids.«end» in
    subst (λ (rows : List ℕ). Replaces c.find_values.result c.find_values.new.hits.items rows)
    (found_decoded (stats_seen r.stats) c.new-codes.result r.data c.as_slice.result.now c.args.self.now r.bit_unpacker
    c.into_inner-low.result.0 c.into_inner-low.result.1 from to c.min.result c.self.view_is c.self.invariant.0
    c.new-codes.ensures c.as_slice.ensures c.min.ensures
    ∙ (λ i. hits_between number_cmp c.args.self.now (ends.start i) (ends.«end» i) from to))
    c.find_values.ensures.ok

pub returns-clause-rises : goal.returns-clause-rises
returns-clause-rises g c =
    let codes = c.new-codes.result in
    let from = c.args.row_ids.start in
    replaces-rise c.find_values.result c.find_values.new.hits.items _ c.find_values.ensures.ok
    (ids_by-rise (λ id. codes.least + codes.divisor * item c.as_slice.result.now c.self.inside.bit_unpacker id)
    c.into_inner-low.result.0 c.into_inner-low.result.1 from (c.min.result - from))
