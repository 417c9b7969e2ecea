use Rattle.std.proofs.Common.{ℕ, List, true, cond, eqb, ap, ◌∙◌, arith}
use Rattle.std.specs.List.{list_any}
use Rattle.col_common.specs.Flags.{flag_at}
use Rattle.col_query.proofs.SetLemmas.{bits_of_docs}
use Rattle.col_query.proofs.doc_set.smaller.Goals as goal

pub returns : goal.returns
returns c =
    λ p e. bits_of_docs c.args.num_docs p c.args.docs.items c.in_ok-words.words.items c.with_bits.result.items c.in_ok-words.words.len e
    c.in_ok-words.ensures (omega (arith, c.with_bits.ensures.len, c.in_ok-words.words.ok, c.with_bits.result.ok))
    (omega (arith, c.in_ok-words.words.ok))
    (λ k h. c.with_bits.ensures.bits k h ∙ ap (λ (xs : List ℕ). cond (list_any (λ d. eqb k d) xs) true
    (flag_at c.in_ok-words.words.items k)) c.deref.ensures.value)
