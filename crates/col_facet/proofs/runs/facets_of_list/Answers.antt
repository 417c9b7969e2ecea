use Rattle.std.proofs.Common.{sym, ◌∙◌}
use Rattle.col_facet.proofs.runs.facets_of_list.Goals as goal
use Rattle.col_facet.proofs.RunLemmas.{no-facets}

pub returns-then-count-eq0 : goal.returns-then-count-eq0
returns-then-count-eq0 g c =
    c.new.ensures.items
    ∙ sym (no-facets g.T.FacetValue.cell (g.V.ColumnValues.values c.args.list.now) c.num_vals-count.result
    c.num_vals-count.ensures c.if-count-eq0.true)
