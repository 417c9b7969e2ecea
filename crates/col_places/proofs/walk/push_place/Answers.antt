use Rattle.std.proofs.Common.{◌≡◌, ◌+◌, ◌-◌, ◌++◌, ◌∷◌, [], ℕ, length, sym, ap, ◌∙◌, arith}
use Rattle.col_places.specs.Bits.{clear_rows}
use Rattle.col_places.proofs.BitLemmas.{set-few}
use Rattle.col_places.proofs.ClearLemmas.{clear-set, place-one}
use Rattle.col_places.proofs.walk.push_place.Goals as goal

pub overflow_sub-row : goal.overflow_sub-row
overflow_sub-row c = omega (arith, c.count_before.ensures, set-few c.args.dropped.now c.args.row)

pub overflow_add-first : goal.overflow_add-first
overflow_add-first c = omega (arith, c.count_before.ensures, clear-set c.args.dropped.now c.args.row, c.requires.room)

pub returns : goal.returns
returns c =
    let words = c.args.dropped.now in
    let row = c.args.row in
    let old = c.args.places.now.items in
    let place : c.args.first + (row - c.count_before.result) ≡ c.args.first + length (clear_rows words row) =
    omega (arith, c.count_before.ensures, clear-set words row) in
    c.in_ok-push.ensures.items ∙ ap (λ (n : ℕ). old ++ n ∷ []) place
    ∙ ap (λ ps. old ++ ps) (sym (place-one words c.args.first row (sym c.if-is_set.ensures)))
