use Rattle.std.proofs.Common.{◌∙◌, ap}
use Rattle.col_facet.specs.Ranked.{ranked_counts}
use Rattle.col_facet.proofs.top.top_ranked.Goals as goal
use Rattle.col_facet.proofs.TopLemmas.{top-is}

pub returns : goal.returns
returns c =
    ap ranked_counts c.truncate.ensures.items
    ∙ top-is c.args.facets.now c.args.k c.in_ok-ranked.ranked.items c.sort_ranked.new.ranked.items c.in_ok-ranked.ensures
    c.sort_ranked.ensures.moved c.sort_ranked.ensures.sorted
