use Rattle.std.proofs.Common.{length, ap, sym, subst, arith}
use Rattle.std.specs.List.{AllByRecursion}
use Rattle.std.specs.BinaryHeap.{IsHeap}
use Rattle.col_merge_terms.specs.Merging.{LeftAscends}
use Rattle.col_merge_terms.specs.Moves.{AreReady, stream_cmp}
use Rattle.col_merge_terms.proofs.term_merger.TermMerger.new.Goals as goal

pub invariant_of-result : goal.invariant_of-result
invariant_of-result c =
    let streams = c.args.term_streams_with_segment in
    let none = c.in_ok-heap.ensures.items in
    let short = ap length none in
    let room = c.in_ok-heap.ensures.capacity in
    let ok = streams.ok in
    record {
      ready = subst (AreReady streams.items) (sym none) (record {
        left_ascends = subst (AllByRecursion LeftAscends) c.deref.ensures.value c.terms_ascend.ensures;
        stand = tt;
        heap = subst (IsHeap stream_cmp) none c.in_ok-heap.ensures.heap_order;
      });
      together = tt;
      fits = omega (arith, short, ok.0, ok.1);
      fits_heap = omega (arith, short, ok.0, room, c.len.ensures);
    }
