use Rattle.col_numbers.specs.Readers.{list_of}
use Rattle.col_index.proofs.SearchLemmas.{narrowed_from}
use Rattle.col_index.proofs.search.Place.far.Goals as goal

pub gallop-requires-clause-narrowed : goal.gallop-requires-clause-narrowed
gallop-requires-clause-narrowed c =
    let p = c.args.self in
    narrowed_from (list_of c.args.values.now) p.at p.next p.target c.args.target c.requires.rising
    c.requires.place.count c.if-target-self.false
