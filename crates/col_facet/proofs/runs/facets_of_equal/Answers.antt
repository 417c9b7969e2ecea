use Rattle.col_facet.proofs.runs.facets_of_equal.Goals as goal
use Rattle.col_facet.proofs.EqualLemmas.{equal-found}

pub returns : goal.returns
returns g c =
    equal-found g.T.Ord.cmp g.met.T.Ord.total g.T.PartialOrd.partial_cmp g.met.T.Ord.matches_partial_cmp g.T.PartialEq.eq
    g.met.T.Ord.matches_eq g.T.FacetValue.cell c.cells_keep_order.ensures c.args.least c.args.greatest
    (g.V.ColumnValues.values c.args.list.now) c.new-facets.result.items c.push.new.self.items c.to_cell.result c.num_vals.result
    c.in_ok-push.ensures.items c.new-facets.ensures.items c.to_cell.ensures c.num_vals.ensures
    c.requires.some c.requires.equal c.requires.below c.requires.above
