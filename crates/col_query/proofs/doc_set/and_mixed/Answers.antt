use Rattle.std.proofs.Common.{ℕ, List, Bool, cond, eqb, ap, ◌∙◌, arith}
use Rattle.std.specs.List.{filter, list_any}
use Rattle.col_common.specs.Flags.{flag_at}
use Rattle.col_query.specs.Sets.{docs_where, turn_over}
use Rattle.col_query.proofs.SetLemmas.{mixed_bits, mixed_list}
use Rattle.col_query.proofs.doc_set.and_mixed.Goals as goal

pub returns-then-docs_turned : goal.returns-then-docs_turned
returns-then-docs_turned c =
    λ n p q a b. mixed_bits n c.args.words_turned p q c.args.docs.items c.args.words.items c.with_bits.result.items c.args.words.len
    (a ∙ ap (λ (v : Bool). docs_where (λ d. turn_over v (p d)) n) c.if-docs_turned.true) b
    (omega (arith, c.with_bits.ensures.len, c.args.words.ok, c.with_bits.result.ok)) (omega (arith, c.args.words.ok))
    (λ k h. c.with_bits.ensures.bits k h ∙ ap (λ (xs : List ℕ). cond (list_any (λ d. eqb k d) xs) c.args.words_turned
    (flag_at c.args.words.items k)) c.deref.ensures.value)

pub returns : goal.returns
returns c =
    λ n p q a b. mixed_list n c.args.words_turned p q c.args.docs.items c.args.words.items c.in_ok-found.found.items
    (a ∙ ap (λ (v : Bool). docs_where (λ d. turn_over v (p d)) n) c.if-docs_turned.false) b
    (c.in_ok-found.ensures
    ∙ (ap (λ (ws : List ℕ). filter (λ d. turn_over c.args.words_turned (flag_at ws d)) c.deref-2.result.now) c.deref-3.ensures.value
    ∙ ap (λ (xs : List ℕ). filter (λ d. turn_over c.args.words_turned (flag_at c.args.words.items d)) xs) c.deref-2.ensures.value))
