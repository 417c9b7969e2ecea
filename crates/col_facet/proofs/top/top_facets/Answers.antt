use Rattle.std.proofs.Common.{◌∙◌, ap, arith}
use Rattle.col_facet.specs.Ranked.{ranked_counts}
use Rattle.col_facet.proofs.top.top_facets.Goals as goal
use Rattle.col_facet.proofs.TopLemmas.{all-ranked}

pub returns : goal.returns
returns c =
    c.loop-count.invariant ∙ all-ranked _ _ (omega arith) ∙ ap ranked_counts c.deref-count-items.ensures.value ∙ c.in_ok-ranked.ensures
