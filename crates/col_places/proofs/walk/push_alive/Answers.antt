use Rattle.std.proofs.Common.{◌≡◌, ◌+◌, ◌++◌, List, ℕ, sym, ap, ◌∙◌, subst, OnOk, arith}
use Rattle.col_places.specs.Places.{AliveRows, are_places, is_listed, places_of}
use Rattle.col_places.proofs.AllLemmas.{all-moved}
use Rattle.col_places.proofs.ClearLemmas.{clear-rise}
use Rattle.col_places.proofs.walk.push_alive.Goals as goal

pub returns-then-len-alive : goal.returns-then-len-alive
returns-then-len-alive c =
    let alive = c.args.alive.now.rows in
    let rows = c.args.rows.now in
    let n = c.alive.inside.num_rows in
    let none : c.args.first + 0 ≡ c.args.first = omega arith in
    let count = sym (ap (λ (a : AliveRows). a.count) c.alive.view_is) in
    let own = sym (ap (λ (a : AliveRows). a.rows) c.alive.view_is) in
    let rise = ap (are_places 0 n) own ∙ clear-rise c.alive.inside.dropped.items n in
    let asked = ap (λ m. are_places 0 m rows) (sym count) ∙ c.requires.rows in
    let moved = all-moved c.args.first 0 n alive rows (omega (arith, c.if-len-alive.true, c.len.ensures)) rise asked in
    subst (λ (ps : List ℕ). OnOk c.push_moved.result (c.push_moved.new.places.items ≡ c.args.places.now.items ++ ps))
    (sym moved ∙ ap (λ k. places_of k (is_listed rows) alive) none) c.push_moved.ensures
