use Rattle.std.proofs.Common.{◌++◌, ◌∷◌, [], List, ℕ, get_or, take, sym, ap, ◌∙◌, arith, append_assoc}
use Rattle.std.proofs.lemmas.List.{take_all}
use Rattle.col_places.specs.Bits.{clear_places}
use Rattle.col_places.proofs.ClearLemmas.{clear-upto, listed-clear, places-push}
use Rattle.col_places.proofs.WalkLemmas.{places-next, places-within}
use Rattle.col_places.proofs.walk.push_listed.Goals as goal

pub count_to-before-requires-clause-within : goal.count_to-before-requires-clause-within
count_to-before-requires-clause-within c =
    let below = places-within 0 c.args.num_rows c.args.rows.now c.loop-row.row-index c.requires.rows c.loop-row-test.true in
    omega (arith, below, c.requires.within)

pub push_place-requires-clause-row : goal.push_place-requires-clause-row
push_place-requires-clause-row c =
    let below = places-within 0 c.args.num_rows c.args.rows.now c.loop-row.row-index c.requires.rows c.loop-row-test.true in
    omega (arith, below, c.requires.within)

pub push_place-requires-clause-room : goal.push_place-requires-clause-room
push_place-requires-clause-room c =
    let row = get_or c.args.rows.now c.loop-row.row-index 0 in
    let below = places-within 0 c.args.num_rows c.args.rows.now c.loop-row.row-index c.requires.rows c.loop-row-test.true in
    omega (arith, clear-upto c.args.dropped.now row c.args.num_rows (omega (arith, below)), c.requires.room)

pub loop-row-preserved : goal.loop-row-preserved
loop-row-preserved c =
    let rows = c.args.rows.now in
    let words = c.args.dropped.now in
    let first = c.args.first in
    let old = c.args.places.now.items in
    let i = c.loop-row.row-index in
    let row = get_or rows i 0 in
    let here = clear_places first words (row ∷ []) in
    record {
      counted = c.count_to-before.ensures;
      behind = λ lt. let later = places-next 0 c.args.num_rows rows i c.requires.rows lt in omega (arith, later);
      found =
          c.in_ok-push_place.ensures ∙ ap (λ (ps : List ℕ). ps ++ here) c.loop-row.invariant.found
          ∙ append_assoc old (clear_places first words (take i rows)) here
          ∙ ap (λ ps. old ++ ps) (sym (places-push words first rows i c.loop-row-test.true));
    }

pub returns : goal.returns
returns c =
    let rows = c.args.rows.now in
    let words = c.args.dropped.now in
    let first = c.args.first in
    let old = c.args.places.now.items in
    let all = take_all c.loop-row.row-index rows (omega (arith, c.loop-row-test.false)) in
    c.loop-row.invariant.found ∙ ap (λ (l : List ℕ). old ++ clear_places first words l) all
    ∙ ap (λ ps. old ++ ps) (sym (listed-clear words first c.args.num_rows rows c.requires.rows))
