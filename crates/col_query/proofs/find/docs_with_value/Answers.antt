use Rattle.std.proofs.Common.{◌≡◌, [], sym, ◌∙◌, ap, subst}
use Rattle.col_dynamic.specs.Dynamic.{content_of}
use Rattle.col_model.specs.Column.{term_cell}
use Rattle.col_model.specs.Table.{number}
use Rattle.col_query.proofs.FindLemmas.{HoldsValues, cells-held}
use Rattle.col_query.proofs.find.docs_with_value.Goals as goal
use Rattle.col_text.specs.Texts.{Texts, texts_content}
use Rattle.col_types.specs.Cells.{unsigned_cell, bool_cell}

pub returns-in-Bool : goal.returns-in-Bool
returns-in-Bool c =
    let x = c.in-Bool.flags in
    subst (λ d. HoldsValues (content_of d) c.args.num_docs c.docs_held.result) (sym c.in-Bool.is)
    (cells-held [] bool_cell x.shape _ c.args.num_docs c.docs_held.result c.docs_held.ensures)

pub returns-in-I64 : goal.returns-in-I64
returns-in-I64 c =
    let x = c.in-I64.numbers in
    subst (λ d. HoldsValues (content_of d) c.args.num_docs c.docs_held-in-I64.result) (sym c.in-I64.is)
    (cells-held [] number x.shape _ c.args.num_docs c.docs_held-in-I64.result c.docs_held-in-I64.ensures)

pub returns-in-U64 : goal.returns-in-U64
returns-in-U64 c =
    let x = c.in-U64.numbers in
    subst (λ d. HoldsValues (content_of d) c.args.num_docs c.docs_held-in-U64.result) (sym c.in-U64.is)
    (cells-held [] unsigned_cell x.shape _ c.args.num_docs c.docs_held-in-U64.result
    c.docs_held-in-U64.ensures)

pub returns-in-IpAddr : goal.returns-in-IpAddr
returns-in-IpAddr c =
    let x = c.in-IpAddr.addresses in
    subst (λ d. HoldsValues (content_of d) c.args.num_docs c.docs_held-in-IpAddr.result) (sym c.in-IpAddr.is)
    (cells-held [] unsigned_cell x.shape _ c.args.num_docs c.docs_held-in-IpAddr.result
    c.docs_held-in-IpAddr.ensures)

pub returns-in-DateTime : goal.returns-in-DateTime
returns-in-DateTime c =
    let x = c.in-DateTime.times in
    subst (λ d. HoldsValues (content_of d) c.args.num_docs c.docs_held-in-DateTime.result) (sym c.in-DateTime.is)
    (cells-held [] number x.shape _ c.args.num_docs c.docs_held-in-DateTime.result
    c.docs_held-in-DateTime.ensures)

pub returns-in-Bytes : goal.returns-in-Bytes
returns-in-Bytes c =
    let x = c.in-Bytes.terms in
    let m = c.args.num_docs in
    let r = c.docs_held-in-Bytes.result in
    let own : Texts = record { terms = x.terms; ords = c.ords.result.now } in
    let same : own ≡ x = λ i. record { terms = x.terms; ords = c.ords.ensures i } in
    subst (λ d. HoldsValues (content_of d) m r) (sym c.in-Bytes.is)
    (subst (λ (t : Texts). HoldsValues (texts_content t) m r) same
    (cells-held x.terms (term_cell x.terms) c.ords.result.now.shape _ m r c.docs_held-in-Bytes.ensures))

pub returns-in-Str : goal.returns-in-Str
returns-in-Str c =
    let x = c.in-Str.texts in
    let m = c.args.num_docs in
    let r = c.docs_held-in-Str.result in
    let own : Texts = record { terms = x.terms; ords = c.ords-in-Str.result.now } in
    let ords = c.ords-in-Str.ensures ∙ ap (λ (t : Texts). t.ords) c.bytes_column.ensures in
    let same : own ≡ x = λ i. record { terms = x.terms; ords = ords i } in
    subst (λ d. HoldsValues (content_of d) m r) (sym c.in-Str.is)
    (subst (λ (t : Texts). HoldsValues (texts_content t) m r) same
    (cells-held x.terms (term_cell x.terms) c.ords-in-Str.result.now.shape _ m r c.docs_held-in-Str.ensures))
