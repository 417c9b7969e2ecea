use Rattle.std.proofs.Common.{ℕ, Bool, true, false, cond, eqb, ap, sym, ◌∙◌}
use Rattle.col_common.specs.Flags.{flag_at}
use Rattle.col_query.proofs.WordLemmas.{flag_set, flag_cleared}
use Rattle.col_query.proofs.words.put_bit.Goals as goal

pub returns-then-value : goal.returns-then-value
returns-then-value c =
    λ k h. flag_set c.args.words.now c.from-at.result k c.if-place-words.true
    ∙ (ap (λ (d : ℕ). cond (eqb k d) true (flag_at c.args.words.now k)) c.from-at.ensures
    ∙ ap (λ (v : Bool). cond (eqb k c.args.doc) v (flag_at c.args.words.now k)) (sym c.if-value.true))

pub returns-else-value : goal.returns-else-value
returns-else-value c =
    λ k h. flag_cleared c.args.words.now c.from-at.result k c.if-place-words.true
    ∙ (ap (λ (d : ℕ). cond (eqb k d) false (flag_at c.args.words.now k)) c.from-at.ensures
    ∙ ap (λ (v : Bool). cond (eqb k c.args.doc) v (flag_at c.args.words.now k)) (sym c.if-value.false))
