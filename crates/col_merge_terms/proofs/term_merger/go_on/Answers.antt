use Rattle.std.proofs.Common.{◌∙◌, subst, arith}
use Rattle.std.specs.List.{AllByRecursion}
use Rattle.std.specs.BinaryHeap.{heap_items}
use Rattle.col_merge_terms.specs.Merging.{LeftAscends}
use Rattle.col_model.proofs.ListLaws.{all_pushed}
use Rattle.col_merge_terms.proofs.StepLemmas.{gone-same}
use Rattle.col_merge_terms.proofs.term_merger.go_on.Goals as goal

pub loop-stream-preserved : goal.loop-stream-preserved
loop-stream-preserved c =
    let popped = c.in-Some.ensures.items in
    let ascend = all_pushed LeftAscends c.pop.new.self.items c.in-Some.stream
    (subst (AllByRecursion LeftAscends) popped c.loop-stream.invariant.ready.left_ascends) in
    record {
      ready = record { left_ascends = ascend.0; stand = c.put_behind.ensures.ready.stand; heap = c.put_behind.ensures.ready.heap };
      room = omega (arith, c.in-Some.ensures.capacity);
      capacity = omega (arith, c.put_behind.ensures.capacity);
      few = omega (arith, c.in-Some.ensures.len, c.put_behind.ensures.few);
      same =
          gone-same c.loop-stream.streams.items c.pop.new.self.items c.in-Some.stream
          (heap_items c.loop-stream.heap) (heap_items c.put_behind.new.heap) popped c.put_behind.ensures.same
          ∙ c.loop-stream.invariant.same;
    }
