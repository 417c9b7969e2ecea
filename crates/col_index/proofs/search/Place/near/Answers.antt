use Rattle.std.proofs.Common.{◌≤◌, arith}
use Rattle.col_numbers.specs.Readers.{list_of}
use Rattle.col_index.proofs.SearchLemmas.{rank_kept}
use Rattle.col_index.proofs.search.Place.near.Goals as goal

pub returns-then-target-self-2-clause-place : goal.returns-then-target-self-2-clause-place
returns-then-target-self-2-clause-place c =
    let p = c.args.self in
    record {
      count =
          rank_kept (list_of c.args.values.now) p.at p.next p.target c.args.target c.requires.rising
          c.requires.place.count c.if-target-self.false c.requires.place.first c.if-target-self-2.true;
      first = c.requires.place.first;
    }

pub returns-then-target-behind-clause-place : goal.returns-then-target-behind-clause-place
returns-then-target-behind-clause-place c =
    let p = c.step-behind.result in
    let on : p.target ≤ c.args.target = omega (arith, c.step-behind.ensures.target, c.if-target-self-2.false) in
    let place = c.step-behind.ensures.place in
    record {
      count =
          rank_kept (list_of c.args.values.now) p.at p.next p.target c.args.target c.requires.rising place.count on
          place.first c.if-target-behind.true;
      first = place.first;
    }
