use Rattle.std.proofs.Common.{◌-◌, ◌^◌, min, sym, ap, ◌∙◌, arith}
use Rattle.col_model.specs.Limits.{dictionary_length}
use Rattle.col_terms.specs.Building.{ordered, counted_bytes}
use Rattle.col_terms.proofs.ArenaLemmas.{length-counted}
use Rattle.col_terms.proofs.dictionary_builder.DictionaryBuilder.table_len.Goals as goal

pub overflow_add-ends_len : goal.overflow_add-ends_len
overflow_add-ends_len c = omega (arith, c.len.ensures, c.self.invariant.few)

pub overflow_mul-ends_len : goal.overflow_mul-ends_len
overflow_mul-ends_len c = omega (arith, c.len.ensures, c.self.invariant.few)

pub returns : goal.returns
returns c =
    length-counted c.self.inside.terms c.len.result c.terms_num_bytes.result c.saturating_add.result
    c.self.invariant.differ c.len.ensures (c.terms_num_bytes.ensures ∙ ap counted_bytes (sym c.self.view_is))
    c.saturating_add.ensures
    ∙ ap (λ ts. min (dictionary_length (ordered ts)) (2 ^ 64 - 1)) c.self.view_is
