use Rattle.std.proofs.Common.{◌++◌, ◌+◌, ◌-◌, ap, sym, ◌∙◌, arith}
use Rattle.col_codecs.specs.BoundedItems.{ids_by}
use Rattle.col_codecs.proofs.BoundedItemLemmas.{ids_by-none, ids_by-joined}
use Rattle.col_codecs.proofs.bounded_items.find_ids.Goals as goal

pub loop-from-init : goal.loop-from-init
loop-from-init g c =
    let a = c.args in
    let f = g.I.BoundedItems.item a.items.now in
    record {
      found = c.clear.ensures.items ∙ sym (ids_by-none f a.low a.high a.ids.start (a.ids.start - a.ids.start) (omega arith));
      begun = omega arith;
      within = omega arith;
    }

pub loop-from-preserved : goal.loop-from-preserved
loop-from-preserved g c =
    let a = c.args in
    let f = g.I.BoundedItems.item a.items.now in
    let start = a.ids.start in
    let from = c.loop-from.from in
    let to = from + c.min.result in
    let block = ids_by f a.low a.high from (to - from) in
    record {
      found = c.in_default.ensures
          ∙ (ap (λ found. found ++ block) c.loop-from.invariant.found
          ∙ sym (ids_by-joined f a.low a.high start (from - start) (to - from) from (to - start) (omega arith) (omega arith)));
      begun = omega arith;
      within = omega arith;
    }
