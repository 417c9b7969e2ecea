use Rattle.std.proofs.Common.{◌≡◌, false, refl, sym, ◌∙◌, arith}
use Rattle.std.proofs.Math.Bool.{and-false}
use Rattle.std.proofs.lemmas.Option.{get_or_from_slice_get}
use Rattle.col_common.specs.Ascending.{is_never_falling}
use Rattle.col_numbers.specs.Readers.{list_of}
use Rattle.col_index.proofs.OldTestLemmas.{stays-none, stays-other, stays-first, stays-fallen, stays-large, stays-more}
use Rattle.col_index.proofs.multivalued_index_v1.are_old_offsets.Goals as goal

pub returns-then-count-eq0 : goal.returns-then-count-eq0
returns-then-count-eq0 c = sym (stays-none (list_of c.args.starts.now) (omega arith))

pub returns-then-get_val-ne0 : goal.returns-then-get_val-ne0
returns-then-get_val-ne0 c =
    sym (stays-other (list_of c.args.starts.now) (λ e. c.if-get_val-ne0.true (
    sym (get_or_from_slice_get (list_of c.args.starts.now) 0 c.get_val.result 0 c.get_val.ensures) ∙ e)))

pub returns-else-stays : goal.returns-else-stays
returns-else-stays c =
    let starts = list_of c.args.starts.now in
    let falls : c.in-Some.stays ≡ false = c.if-stays.false in
    let known : is_never_falling starts ≡ false = sym c.in-Some.ensures ∙ falls in
    falls ∙ sym (rw (known, and-false) refl)

pub loop-at-init : goal.loop-at-init
loop-at-init c =
    stays-first (list_of c.args.starts.now) (omega arith) (
    get_or_from_slice_get (list_of c.args.starts.now) 0 c.get_val.result 0 c.get_val.ensures
    ∙ c.if-get_val-ne0.false)

pub returns-then-start-last : goal.returns-then-start-last
returns-then-start-last c =
    sym (c.loop-at.invariant
    ∙ stays-fallen (list_of c.args.starts.now) c.loop-at.last c.loop-at.at c.get_val-start.result
    c.get_val-start.ensures c.if-start-last.true)

pub returns-then-start-from : goal.returns-then-start-from
returns-then-start-from c =
    sym (c.loop-at.invariant
    ∙ stays-large (list_of c.args.starts.now) c.loop-at.last c.loop-at.at c.get_val-start.result
    c.get_val-start.ensures (omega arith))

pub loop-at-preserved : goal.loop-at-preserved
loop-at-preserved c =
    c.loop-at.invariant ∙ stays-more (list_of c.args.starts.now) c.loop-at.last c.loop-at.at c.get_val-start.result
    c.get_val-start.ensures c.if-start-last.false (omega arith)
