use Rattle.std.proofs.Common.{ap, ◌∙◌, arith}
use Rattle.col_model.specs.Limits.{dictionary_length}
use Rattle.col_terms.specs.Building.{ordered, is_too_long}
use Rattle.col_writer_rows.proofs.TextLemmas.{short-length}
use Rattle.col_merge_texts.specs.Noting.{Noted}
use Rattle.col_merge_texts.proofs.noted_terms.NotedTerms.dictionary_len.Goals as goal

pub overflow_mul-result : goal.overflow_mul-result
overflow_mul-result c =
    let p = short-length c.self.inside.terms c.terms_differ.ensures (ap (λ (n : Noted). is_too_long n.terms) c.self.view_is ∙ c.requires) in
    omega (arith, p.1, c.num_terms.ensures)

pub overflow_add-result : goal.overflow_add-result
overflow_add-result c =
    let p = short-length c.self.inside.terms c.terms_differ.ensures (ap (λ (n : Noted). is_too_long n.terms) c.self.view_is ∙ c.requires) in
    omega (arith, p.1, c.num_terms.ensures)

pub overflow_add-result-2 : goal.overflow_add-result-2
overflow_add-result-2 c =
    let p = short-length c.self.inside.terms c.terms_differ.ensures (ap (λ (n : Noted). is_too_long n.terms) c.self.view_is ∙ c.requires) in
    omega (arith, p.1, c.num_terms.ensures, c.terms_num_bytes.ensures)

pub overflow_cast-result : goal.overflow_cast-result
overflow_cast-result c =
    let p = short-length c.self.inside.terms c.terms_differ.ensures (ap (λ (n : Noted). is_too_long n.terms) c.self.view_is ∙ c.requires) in
    omega (arith, p.1, c.num_terms.ensures, c.terms_num_bytes.ensures)

pub returns : goal.returns
returns c =
    let p = short-length c.self.inside.terms c.terms_differ.ensures (ap (λ (n : Noted). is_too_long n.terms) c.self.view_is ∙ c.requires) in
    let total = ap (λ (n : Noted). dictionary_length (ordered n.terms)) c.self.view_is in
    omega (arith, p.0, p.1, total, c.num_terms.ensures, c.terms_num_bytes.ensures)
