use Rattle.std.proofs.Common.{◌≡◌, List, IfOk, sym, ◌∙◌, ap₂, subst}
use Rattle.col_common.specs.Ascending.{AreBelow}
use Rattle.col_column.specs.Columns.{num_docs_in}
use Rattle.col_numbers.specs.NumValues.{num_values_of}
use Rattle.col_facet.specs.Tables.{counted_from, term_at}
use Rattle.col_facet.specs.declared.facet_cell.FacetCount.{FacetCount}
use Rattle.col_facet.proofs.facets.term_facets.Goals as goal
use Rattle.col_facet.proofs.FacetLemmas.{term-counted}

pub counts_of_docs-requires-clause-below : goal.counts_of_docs-requires-clause-below
counts_of_docs-requires-clause-below c =
    subst (λ ords. AreBelow (num_docs_in num_values_of ords) c.args.docs.now) (sym c.ords.ensures) c.requires.below

pub returns : goal.returns
returns c =
    subst (λ (fs : List FacetCount). IfOk c.counted_facets.result (λ facets. facets.items ≡ fs))
    (ap₂ (λ terms counts. counted_from (term_at terms) 0 counts) c.dictionary.ensures c.as_slice.ensures.value
    ∙ term-counted c.args.column.now.terms c.args.column.now.ords c.ords.result.now c.args.docs.now c.in_ok-counts.counts.items
    c.num_terms.result c.ordinals_are_told.ensures.ordinals c.ords.ensures c.num_terms.ensures c.in_ok-counts.ensures.len
    c.in_ok-counts.ensures.counts)
    c.counted_facets.ensures
