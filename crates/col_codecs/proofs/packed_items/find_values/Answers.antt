use Rattle.std.proofs.Common.{ℕ, List, ◌-◌, ◌∙◌, subst}
use Rattle.std.specs.Range.{range_inclusive_start, range_inclusive_end}
use Rattle.col_common.specs.Replacing.{Replaces}
use Rattle.col_bits.specs.Packed.{item}
use Rattle.col_codecs.specs.BoundedItems.{ids_by}
use Rattle.col_codecs.proofs.FoundLemmas.{found_coded}
use Rattle.col_codecs.proofs.packed_items.find_values.Goals as goal

pub returns-clause-ok : goal.returns-clause-ok
returns-clause-ok g c =
    let a = c.args in
    let ends = c.into_inner-first.ensures in
    let codes = c.codes_between.result in
    let read = item a.items.now.bytes.now a.items.now.bit_unpacker in
    let from = a.ids.start in
    let count = a.ids.«end» - from in
    subst (λ (rows : List ℕ). Replaces c.find_ids.result c.find_ids.new.hits.items rows)
    ((λ i. ids_by read (ends.start i) (ends.«end» i) from count)
    ∙ found_coded read a.codes.now.least a.codes.now.divisor a.low a.high (range_inclusive_start codes)
    (range_inclusive_end codes) from count c.codes_between.ensures.codes)
    c.find_ids.ensures
