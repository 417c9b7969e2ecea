use Rattle.std.proofs.Common.{◌≡◌, true, subst}
use Rattle.col_places.specs.Places.{AliveRows, are_places}
use Rattle.col_places.proofs.ClearLemmas.{clear-rise}
use Rattle.col_places.proofs.alive.Alive.rise.Goals as goal

pub returns : goal.returns
returns c =
    let s = c.self.inside in
    subst (λ (a : AliveRows). are_places 0 a.count a.rows ≡ true) c.self.view_is (clear-rise s.dropped.items s.num_rows)
