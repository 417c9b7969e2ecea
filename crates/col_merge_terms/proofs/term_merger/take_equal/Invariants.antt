use Rattle.std.proofs.Common.{◌≡◌, ◌+◌, ◌≤◌, ◌++◌}
use Rattle.std.specs.BinaryHeap.{heap_items, heap_len, heap_capacity}
use Rattle.std.specs.Vec.{vec_len, vec_capacity}
use Rattle.col_merge_terms.specs.Moves.{AreTaken}
use Rattle.col_merge_terms.proofs.term_merger.take_equal.Given as goal

abbrev pub invariant-loop-heap : goal.invariant-loop-heap
invariant-loop-heap l = record {
  taken : AreTaken (l.fn.streams.items ++ heap_items l.fn.heap) l.streams.items (heap_items l.heap);
  room : vec_capacity l.streams ≡ vec_capacity l.fn.streams;
  capacity : heap_capacity l.heap ≡ heap_capacity l.fn.heap;
  fits : heap_len l.heap + vec_len l.streams ≤ vec_capacity l.streams;
}

abbrev pub decreases-loop-heap : goal.decreases-loop-heap
decreases-loop-heap l = heap_len l.heap
