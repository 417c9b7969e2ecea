use Rattle.std.proofs.Common.{◌≡◌, ◌+◌, ◌≤◌, ◌++◌}
use Rattle.std.specs.BinaryHeap.{heap_items, heap_len, heap_capacity}
use Rattle.std.specs.Vec.{vec_len, vec_capacity}
use Rattle.col_merge_terms.specs.Merging.{in_order, terms_left, terms_ahead}
use Rattle.col_merge_terms.specs.Moves.{AreReady}
use Rattle.col_merge_terms.proofs.term_merger.go_on.Given as goal

abbrev pub invariant-loop-stream : goal.invariant-loop-stream
invariant-loop-stream l = record {
  ready : AreReady l.streams.items (heap_items l.heap);
  room : vec_capacity l.streams ≡ vec_capacity l.fn.streams;
  capacity : heap_capacity l.fn.heap ≤ heap_capacity l.heap;
  few : vec_len l.streams + heap_len l.heap ≤ vec_len l.fn.streams + heap_len l.fn.heap;
  same : in_order (terms_left l.streams.items ++ terms_ahead (heap_items l.heap))
      ≡ in_order (terms_left l.fn.streams.items ++ terms_ahead (heap_items l.fn.heap));
}

abbrev pub decreases-loop-stream : goal.decreases-loop-stream
decreases-loop-stream l = vec_len l.streams
