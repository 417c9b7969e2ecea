use Rattle.std.proofs.Common.{◌≡◌, ℕ, List, true, map, ap, sym, ◌∙◌, subst, IsPermutation}
use Rattle.std.specs.BinaryHeap.{heap_items}
use Rattle.col_common.specs.Ascending.{is_never_falling}
use Rattle.col_merge_terms.specs.Merging.{Merging, is_on_key, places_of}
use Rattle.col_merge_terms.specs.Places.{places_at}
use Rattle.col_merge_terms.proofs.MergerLemmas.{all-places, ascending-places}
use Rattle.col_merge_terms.proofs.term_merger.TermMerger.matching_segments.Goals as goal

pub returns-clause-all : goal.returns-clause-all
returns-clause-all c =
    let s = c.self.inside in
    let on = subst (λ (m : Merging). is_on_key m ≡ true) (sym c.self.view_is) c.requires in
    let same = sym (c.new.ensures ∙ ap places_at c.deref.ensures.value) in
    let all = all-places s.is_on_term s.term_streams_with_segment.items (heap_items s.heap) c.self.invariant.together on in
    subst (λ (ps : List (ℕ × ℕ)). IsPermutation (places_of c.args.self.now.current) ps) same
    (subst (λ (m : Merging). IsPermutation (places_of m.current) (places_at s.term_streams_with_segment.items)) c.self.view_is all)

pub returns-clause-ascend : goal.returns-clause-ascend
returns-clause-ascend c =
    let s = c.self.inside in
    let on = subst (λ (m : Merging). is_on_key m ≡ true) (sym c.self.view_is) c.requires in
    ap (λ (ps : List (ℕ × ℕ)). is_never_falling (map (λ p. p.0) ps)) (c.new.ensures ∙ ap places_at c.deref.ensures.value)
    ∙ ascending-places s.is_on_term s.term_streams_with_segment.items (heap_items s.heap) c.self.invariant.together on
