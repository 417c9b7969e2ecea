use Rattle.std.proofs.Common.{refl, sym, ◌∙◌}
use Rattle.std.specs.BinaryHeap.{heap_items}
use Rattle.col_merge_terms.proofs.StepLemmas.{put-ready, put-same}
use Rattle.col_merge_terms.proofs.term_merger.put_behind.Goals as goal

pub returns-then-advance-clause-ready : goal.returns-then-advance-clause-ready
returns-then-advance-clause-ready c =
    put-ready c.args.stream (record { terms = c.advance.new.self; segment_ord = c.args.stream.segment_ord })
    (heap_items c.args.heap.now) (heap_items c.put.new.heap)
    c.requires.ascends c.advance.ensures.term (sym c.advance.ensures.found ∙ c.if-advance.true) c.requires.ready
    c.put.ensures.moved c.put.ensures.heap

pub returns-then-advance-clause-same : goal.returns-then-advance-clause-same
returns-then-advance-clause-same c =
    put-same c.args.stream (record { terms = c.advance.new.self; segment_ord = c.args.stream.segment_ord })
    (heap_items c.args.heap.now) (heap_items c.put.new.heap)
    refl c.advance.ensures.term (sym c.advance.ensures.found ∙ c.if-advance.true) c.put.ensures.moved
