use Rattle.std.proofs.Common.{◌++◌, arith, ◌∙◌}
use Rattle.std.specs.BinaryHeap.{heap_items}
use Rattle.col_merge_terms.proofs.StepLemmas.{taken-through}
use Rattle.col_merge_terms.proofs.term_merger.take_equal.Goals as goal

pub loop-heap-preserved : goal.loop-heap-preserved
loop-heap-preserved c =
    let all = c.args.streams.now.items ++ heap_items c.args.heap.now in
    record {
      taken =
          taken-through all c.loop-heap.streams.items (heap_items c.loop-heap.heap) c.take.new.streams.items
          (heap_items c.take.new.heap) c.loop-heap.invariant.taken c.take.ensures.taken;
      room = c.take.ensures.room ∙ c.loop-heap.invariant.room;
      capacity = c.take.ensures.capacity ∙ c.loop-heap.invariant.capacity;
      fits = omega arith;
    }
