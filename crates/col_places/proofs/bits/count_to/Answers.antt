use Rattle.std.proofs.Common.{◌+◌, ◌*◌, ℕ, count_ones, get_or, refl, ap, ◌∙◌, arith}
use Rattle.col_places.proofs.BitLemmas.{set-few, set-word}
use Rattle.col_places.proofs.bits.count_to.Goals as goal

pub overflow_add-count : goal.overflow_add-count
overflow_add-count c =
    let words = c.args.words.now in
    let at = c.loop-at.at in
    let next = set-word words at (get_or words at 0) (c.type_inv.words at).fits refl in
    omega (arith, next, set-few words (64 * (at + 1)), c.loop-at.invariant, c.loop-at-test.true, c.requires.room)

pub loop-at-preserved : goal.loop-at-preserved
loop-at-preserved c =
    let words = c.args.words.now in
    let at = c.loop-at.at in
    let word = get_or words at 0 in
    ap (λ (n : ℕ). n + count_ones word) c.loop-at.invariant ∙ set-word words at word (c.type_inv.words at).fits refl
