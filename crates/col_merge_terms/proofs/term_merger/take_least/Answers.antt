use Rattle.std.proofs.Common.{◌≡◌, List, [], ◌∷◌, ◌++◌, ap, ◌∙◌, subst}
use Rattle.std.specs.BinaryHeap.{heap_items}
use Rattle.col_merge_terms.specs.declared.terms_with_segment_ord.TermsWithSegmentOrd.{TermsWithSegmentOrd}
use Rattle.col_merge_terms.specs.Moves.{AreTaken}
use Rattle.col_merge_terms.proofs.StepLemmas.{taken-first, taken-through}
use Rattle.col_merge_terms.proofs.term_merger.take_least.Goals as goal

pub returns-clause-least : goal.returns-clause-least
returns-clause-least c =
    let old = heap_items c.args.heap.now in
    let next = heap_items c.pop.new.self in
    let x = c.in-Some.first in
    let popped = c.in-Some.ensures in
    let one : c.push_reserved.new.self.items ≡ x ∷ [] =
    c.push_reserved.ensures.items ∙ ap (λ (ss : List TermsWithSegmentOrd). ss ++ x ∷ []) c.requires.none in
    let first = taken-first old next x popped.permutation (popped.heap_order c.requires.heap).0 (popped.below_top c.requires.heap) in
    let rest = subst (λ ss. AreTaken (ss ++ next) c.take_equal.new.streams.items (heap_items c.take_equal.new.heap))
    one c.take_equal.ensures.taken in (
      taken-through old (x ∷ []) next c.take_equal.new.streams.items (heap_items c.take_equal.new.heap) first rest,
      c.take_equal.ensures.later,
    )
