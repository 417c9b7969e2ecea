use Rattle.std.proofs.Common.{ap, ◌∙◌, arith}
use Rattle.std.specs.BinaryHeap.{heap_items}
use Rattle.col_merge_terms.specs.Merging.{Merging, merged_step}
use Rattle.col_merge_terms.proofs.MergerLemmas.{advanced, advanced-found, advanced-ready, advanced-together, advanced-long}
use Rattle.col_merge_terms.proofs.term_merger.TermMerger.advance.Goals as goal

pub invariant_of-self : goal.invariant_of-self
invariant_of-self c =
    let found = c.take_least-self-inside.result in
    let heap = heap_items c.go_on.new.heap in
    let at = c.take_least-self-inside.new.streams.items in
    let ahead = heap_items c.take_least-self-inside.new.heap in
    let ready = c.go_on.ensures.ready in
    let least = c.take_least-self-inside.ensures.least in
    let long = advanced-long found heap at ahead ready least in
    record {
      ready = advanced-ready found heap at ahead ready least;
      together = advanced-together found heap at ahead ready least;
      fits = omega arith;
      fits_heap = omega arith;
    }

pub returns-clause-term : goal.returns-clause-term
returns-clause-term c =
    advanced c.take_least-self-inside.result (heap_items c.go_on.new.heap)
    c.take_least-self-inside.new.streams.items (heap_items c.take_least-self-inside.new.heap)
    c.go_on.ensures.ready c.take_least-self-inside.ensures.least
    ∙ ap merged_step (c.go_on.ensures.same ∙ ap (λ (m : Merging). m.left) c.self.view_is)

pub returns-clause-found : goal.returns-clause-found
returns-clause-found c =
    advanced-found c.take_least-self-inside.result (heap_items c.go_on.new.heap)
    c.take_least-self-inside.new.streams.items (heap_items c.take_least-self-inside.new.heap)
    c.go_on.ensures.ready c.take_least-self-inside.ensures.least
