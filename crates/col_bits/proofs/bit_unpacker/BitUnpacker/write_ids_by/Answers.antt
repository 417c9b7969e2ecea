use Rattle.std.proofs.Common.{◌++◌, ◌+◌, ◌-◌, take, ap, sym, ◌∙◌, arith, append-nil}
use Rattle.col_common.proofs.KeptLemmas.{kept_within}
use Rattle.col_bits.proofs.ItemLemmas.{ids_none, ids_outside, ids_more}
use Rattle.col_bits.proofs.bit_unpacker.BitUnpacker.write_ids_by.Goals as goal

pub loop-id-init : goal.loop-id-init
loop-id-init g c =
    let a = c.args in
    let front = take a.at a.output.now in
    record {
      below = omega arith;
      front =
          sym (append-nil front)
          ∙ ap (λ xs. front ++ xs) (sym
          (ids_none a.«data».now a.self.now a.asked.low a.asked.high a.asked.start (a.asked.start - a.asked.start) (omega arith)));
    }

pub loop-id-preserved : goal.loop-id-preserved
loop-id-preserved g c =
    let a = c.args in
    let l = c.loop-id in
    let b = c.is_within.result in
    record {
      below = omega (arith, kept_within l.kept (a.at + l.id - a.asked.start) b (omega arith));
      front =
          ids_more a.«data».now a.self.now a.asked.low a.asked.high a.asked.start (l.id - a.asked.start) (l.id + 1 - a.asked.start)
          l.id l.kept c.item_at-value.result (take a.at a.output.now) l.output b (omega arith) (omega arith)
          c.is_within.ensures c.item_at-value.ensures (omega arith) l.invariant.front;
    }

pub returns-then-low-high-clause-front : goal.returns-then-low-high-clause-front
returns-then-low-high-clause-front g c =
    let a = c.args in
    let front = take a.at a.output.now in
    sym (append-nil front) ∙ ap (λ xs. front ++ xs) (sym (ids_outside a.«data».now a.self.now a.asked.low a.asked.high
    a.asked.start (a.asked.«end» - a.asked.start) c.if-low-high.true))
