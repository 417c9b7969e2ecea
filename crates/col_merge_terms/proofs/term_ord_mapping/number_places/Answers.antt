use Rattle.std.proofs.Common.{subst}
use Rattle.std.specs.Prelude.{ℕ, List}
use Rattle.col_merge_texts.specs.Items.{lists_of}
use Rattle.col_merge_terms.specs.Numbering.{AreGiven}
use Rattle.col_merge_terms.proofs.ItemLemmas.{given-start, given-within, given-more, given-end}
use Rattle.col_merge_terms.proofs.term_ord_mapping.number_places.Goals as goal

pub loop-segment-init : goal.loop-segment-init
loop-segment-init c = given-start c.args.places c.args.ord (lists_of c.args.mapping.now) c.requires

pub number-requires : goal.number-requires
number-requires c =
    let old = lists_of c.args.mapping.now in
    let new = lists_of c.loop-segment.mapping in
    let given = subst (λ (ps : List (ℕ × ℕ)). AreGiven c.args.places ps c.args.ord old new) c.in-Some.ensures.steps
    c.loop-segment.invariant in
    given-within c.args.places c.next.new.self (c.in-Some.segment, c.in-Some.from) c.args.ord old new given

pub loop-segment-preserved : goal.loop-segment-preserved
loop-segment-preserved c =
    let old = lists_of c.args.mapping.now in
    let new = lists_of c.loop-segment.mapping in
    let given = subst (λ (ps : List (ℕ × ℕ)). AreGiven c.args.places ps c.args.ord old new) c.in-Some.ensures.steps
    c.loop-segment.invariant in
    given-more c.args.places c.next.new.self (c.in-Some.segment, c.in-Some.from) c.args.ord old new
    (lists_of c.number.new.mapping) given c.number.ensures

pub returns : goal.returns
returns c =
    let given = subst (λ (ps : List (ℕ × ℕ)). AreGiven c.args.places ps c.args.ord (lists_of c.args.mapping.now)
    (lists_of c.loop-segment.mapping)) c.in_default.ensures.steps.0 c.loop-segment.invariant in
    given-end c.args.places c.args.ord (lists_of c.args.mapping.now) (lists_of c.loop-segment.mapping) given
