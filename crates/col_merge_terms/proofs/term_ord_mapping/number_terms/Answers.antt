use Rattle.std.proofs.Common.{true, length, sym, ap, ◌∙◌, subst, arith}
use Rattle.std.specs.Prelude.{List}
use Rattle.col_merge_terms.specs.Merging.{SegmentTerm, Merging, is_on_key}
use Rattle.col_merge_texts.specs.Items.{terms_of, lists_of}
use Rattle.col_merge_terms.specs.Numbering.{AreNumbered}
use Rattle.col_merge_terms.proofs.NumberingLemmas.{numbered-start, numbered-end, step-shorter, step-none, key-within, key-numbered, key-fits, terms-counted}
use Rattle.col_merge_terms.proofs.term_ord_mapping.number_terms.Goals as goal

pub loop-merger-init : goal.loop-merger-init
loop-merger-init c =
    let tss = terms_of c.args.bytes_columns.now in
    let m = lists_of c.args.mapping.now in
    subst (λ (merger : Merging). AreNumbered tss (λ key. true) merger.left 0 m) (sym c.in_ok-merger.ensures)
    (numbered-start tss (λ key. true) m c.requires.lengths)

pub number_key-requires-clause-within : goal.number_key-requires-clause-within
number_key-requires-clause-within c =
    key-within (terms_of c.args.bytes_columns.now) (λ key. true) c.loop-merger.merger.left c.loop-merger.ord
    (lists_of c.loop-merger.mapping) c.loop-merger.invariant c.advance.new.self c.advance.ensures.term

pub overflow_add-ord : goal.overflow_add-ord
overflow_add-ord c =
    let on = sym c.advance.ensures.found ∙ c.loop-merger-test.true in
    let fits = key-fits (terms_of c.args.bytes_columns.now) c.loop-merger.merger.left c.loop-merger.ord
    (lists_of c.loop-merger.mapping) c.loop-merger.invariant c.advance.new.self c.advance.ensures.term on
    (terms-counted c.args.bytes_columns.now c.requires.counted) in
    omega (arith, fits)

pub loop-merger-smaller : goal.loop-merger-smaller
loop-merger-smaller c =
    let on = sym c.advance.ensures.found ∙ c.loop-merger-test.true in
    let less = step-shorter c.loop-merger.merger.left (sym (ap is_on_key c.advance.ensures.term) ∙ on) in
    let same = ap (λ (m : Merging). length m.left) c.advance.ensures.term in
    omega (arith, less, same)

pub loop-merger-preserved : goal.loop-merger-preserved
loop-merger-preserved c =
    let on = sym c.advance.ensures.found ∙ c.loop-merger-test.true in
    key-numbered (terms_of c.args.bytes_columns.now) c.loop-merger.merger.left c.loop-merger.ord
    (lists_of c.loop-merger.mapping) c.loop-merger.invariant c.advance.new.self c.advance.ensures.term on
    (lists_of c.number_key.new.mapping) c.number_key.ensures

pub returns : goal.returns
returns c =
    let tss = terms_of c.args.bytes_columns.now in
    let off = sym (ap is_on_key c.advance.ensures.term) ∙ sym c.advance.ensures.found ∙ c.loop-merger-test.false in
    let none = step-none c.loop-merger.merger.left off in
    numbered-end tss c.loop-merger.ord (lists_of c.loop-merger.mapping) (subst (λ (ts : List SegmentTerm).
    AreNumbered tss (λ key. true) ts c.loop-merger.ord (lists_of c.loop-merger.mapping)) none
    c.loop-merger.invariant)
