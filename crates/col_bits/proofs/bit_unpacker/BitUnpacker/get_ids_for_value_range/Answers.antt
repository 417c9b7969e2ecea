use Rattle.std.proofs.Common.{◌++◌, ◌+◌, ◌-◌, ap, sym, ◌∙◌, arith}
use Rattle.col_bits.specs.Packed.{ids_between}
use Rattle.col_bits.proofs.ItemLemmas.{ids_none, ids_joined}
use Rattle.col_bits.proofs.bit_unpacker.BitUnpacker.get_ids_for_value_range.Goals as goal

pub loop-from-init : goal.loop-from-init
loop-from-init c =
    let a = c.args in
    let ends = c.into_inner-low.result in
    record {
      found =
          c.clear.ensures.items
          ∙ sym
          (ids_none a.«data».now a.self.now ends.0 ends.1 a.ids.start (a.ids.start - a.ids.start) (omega arith));
      begun = omega arith;
      within = omega arith;
    }

pub loop-from-preserved : goal.loop-from-preserved
loop-from-preserved c =
    let a = c.args in
    let ends = c.into_inner-low.result in
    let start = a.ids.start in
    let from = c.loop-from.from in
    let to = from + c.min.result in
    let block = ids_between a.«data».now a.self.now ends.0 ends.1 from (to - from) in
    record {
      found = c.in_default.ensures.ok
          ∙ (ap (λ found. found ++ block) c.loop-from.invariant.found
          ∙ sym (ids_joined a.«data».now a.self.now ends.0 ends.1 start (from - start) (to - from) from (to - start)
          (omega arith) (omega arith)));
      begun = omega arith;
      within = omega arith;
    }
