use Rattle.col_numbers.specs.Readers.{list_of}
use Rattle.col_index.proofs.SearchLemmas.{rank_of_zero}
use Rattle.col_index.proofs.search.Place.first.Goals as goal

pub returns-clause-place : goal.returns-clause-place
returns-clause-place c = record { count = rank_of_zero (list_of c.args.values.now); first = c.number_at.ensures }
