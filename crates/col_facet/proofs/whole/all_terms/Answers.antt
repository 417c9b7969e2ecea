use Rattle.std.proofs.Common.{◌≡◌, ℕ, List, map, IfOk, sym, ◌∙◌, ap, ap₂, subst}
use Rattle.col_column.specs.Columns.{Seen}
use Rattle.col_numbers.specs.NumValues.{num_values_of}
use Rattle.col_numbers.specs.declared.num_values.NumValues.{NumValues}
use Rattle.col_facet.specs.Facets.{facets_of}
use Rattle.col_facet.specs.Tables.{counted_from, term_at}
use Rattle.col_facet.specs.declared.facet_cell.FacetCount.{FacetCount}
use Rattle.col_facet.proofs.whole.all_terms.Goals as goal
use Rattle.col_facet.proofs.DocLemmas.{values-whole}
use Rattle.col_facet.proofs.FacetLemmas.{all-terms-counted}

pub returns : goal.returns
returns c =
    let texts = c.args.column.now in
    subst (λ (fs : List FacetCount). IfOk c.counted_facets.result (λ facets. facets.items ≡ fs))
    (ap₂ (λ terms counts. counted_from (term_at terms) 0 counts) c.dictionary.ensures c.as_slice.ensures.value
    ∙ all-terms-counted texts.terms texts.ords c.in_ok-counts.counts.items _ c.num_terms.result
    c.ordinals_are_told.ensures.ordinals
    (ap num_values_of c.values.ensures ∙ ap (λ (o : Seen (NumValues ℕ)). num_values_of o.values) c.ords.ensures)
    c.num_terms.ensures c.in_ok-counts.ensures.len c.in_ok-counts.ensures.counts
    ∙ ap (λ xs. facets_of (map (term_at texts.terms) xs))
    (sym (values-whole texts.ords.shape (num_values_of texts.ords.values) c.ordinals_are_told.ensures.counted)))
    c.counted_facets.ensures
