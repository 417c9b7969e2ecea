use Rattle.std.proofs.Common.{◌++◌, sym, ◌∙◌, subst}
use Rattle.std.specs.BinaryHeap.{heap_items}
use Rattle.col_merge_terms.specs.Moves.{AreTaken}
use Rattle.col_merge_terms.proofs.StepLemmas.{taken-more, top-key}
use Rattle.col_merge_terms.proofs.term_merger.take.Goals as goal

pub returns-in-Some-clause-taken : goal.returns-in-Some-clause-taken
returns-in-Some-clause-taken c =
    let at = c.args.streams.now.items in
    let ahead = heap_items c.args.heap.now in
    let x = c.in-Some.stream in
    let popped = c.in-Some.ensures in
    let key = top-key ahead x c.requires.first.0 popped.top ∙ c.requires.first.1 in
    subst (λ ss. AreTaken (at ++ ahead) ss (heap_items c.pop.new.self)) (sym c.push_reserved.ensures.items)
    (taken-more at ahead (heap_items c.pop.new.self) x c.requires.taken key popped.permutation
    (popped.heap_order c.requires.taken.heap).0 (popped.below_top c.requires.taken.heap))
