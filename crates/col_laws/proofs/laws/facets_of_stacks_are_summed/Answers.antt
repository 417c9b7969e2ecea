use Rattle.col_laws.proofs.FacetLemmas.{facets-of-stacks-are-summed}
use Rattle.col_laws.proofs.laws.facets_of_stacks_are_summed.Goals as goal

pub returns : goal.returns
returns c = facets-of-stacks-are-summed
