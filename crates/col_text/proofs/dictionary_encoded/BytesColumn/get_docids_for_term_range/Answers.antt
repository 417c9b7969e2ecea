use Rattle.std.proofs.Common.{sym, ◌∙◌, subst}
use Rattle.col_column.specs.Columns.{rows_of_values}
use Rattle.col_column.specs.Lookups.{docs_passing}
use Rattle.col_common.specs.Replacing.{Replaces}
use Rattle.col_column.specs.NumValues.{num_values_of}
use Rattle.col_values.specs.Codes.{number_cmp}
use Rattle.col_values.specs.Values.{is_between}
use Rattle.col_text.specs.Texts.{Texts, AreOrdinals}
use Rattle.col_text.proofs.TermLookupLemmas.{terms-found, no-terms-found}
use Rattle.col_text.proofs.dictionary_encoded.BytesColumn.get_docids_for_term_range.Goals as goal

pub returns-then-end-first-clause-ok : goal.returns-then-end-first-clause-ok
returns-then-end-first-clause-ok c =
    let are = subst (λ (t : Texts). AreOrdinals t.terms t.ords) c.self.view_is c.self.invariant in
    let docs = c.args.selected_docid_range in
    c.clear.ensures.items
    ∙ sym (no-terms-found c.args.self.now are c.args.low.now c.args.high.now c.first_from-first.result
    c.end_of-end.result c.first_from-first.ensures c.end_of-end.ensures docs.start docs.«end»
    c.if-end-first.true)

pub returns-clause-ok : goal.returns-clause-ok
returns-clause-ok c =
    let are = subst (λ (t : Texts). AreOrdinals t.terms t.ords) c.self.view_is c.self.invariant in
    let docs = c.args.selected_docid_range in
    let call = c.get_docids_for_value_range in
    subst (Replaces call.result call.new.doc_ids.items)
    ((λ i. docs_passing (is_between number_cmp (c.new.ensures.start i) (c.new.ensures.«end» i))
    (rows_of_values num_values_of (c.self.view_is i).ords) docs.start docs.«end»)
    ∙ terms-found c.args.self.now are c.args.low.now c.args.high.now c.first_from-first.result c.end_of-end.result
    c.first_from-first.ensures c.end_of-end.ensures docs.start docs.«end» c.if-end-first.false)
    call.ensures.ok
