use Rattle.std.proofs.Common.{◌≡◌, true, ap, sym, ◌∙◌, subst}
use Rattle.std.specs.BinaryHeap.{heap_items}
use Rattle.col_merge_terms.specs.Merging.{Merging, key_of, is_on_key}
use Rattle.col_merge_terms.proofs.MergerLemmas.{first-key}
use Rattle.col_merge_terms.proofs.term_merger.TermMerger.key.Goals as goal

pub returns : goal.returns
returns c =
    let s = c.self.inside in
    let on = subst (λ (m : Merging). is_on_key m ≡ true) (sym c.self.view_is) c.requires in
    c.key.ensures
    ∙ first-key s.is_on_term s.term_streams_with_segment.items (heap_items s.heap) c.self.invariant.together on
    c.index.result.now c.index.ensures
    ∙ ap (λ (m : Merging). key_of m.current) c.self.view_is
