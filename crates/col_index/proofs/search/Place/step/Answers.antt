use Rattle.col_numbers.specs.Readers.{list_of}
use Rattle.col_index.proofs.SearchLemmas.{rank_of_next}
use Rattle.col_index.proofs.search.Place.step.Goals as goal

pub returns-clause-place : goal.returns-clause-place
returns-clause-place c =
    let p = c.args.self in
    let further = rank_of_next (list_of c.args.values.now) p.at p.next p.target c.requires.rising
    c.requires.place.count c.requires.place.first c.requires.number in
    record { count = further.1; first = c.number_at.ensures }
