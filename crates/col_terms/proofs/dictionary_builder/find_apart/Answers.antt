use Rattle.std.proofs.Common.{◌≡◌, Bool, true, false, refl, sym, ◌∙◌, arith}
use Rattle.std.specs.Prelude.{not}
use Rattle.col_terms.proofs.ApartLemmas.{not_apart-other}
use Rattle.col_terms.proofs.ChainLemmas.{other-term}
use Rattle.col_terms.proofs.dictionary_builder.find_apart.Goals as goal
use Rattle.col_terms.proofs.dictionary_builder.find_apart.Goals.{then-id-len-via-then-id-len, then-id-len-via-else-id-len+then-ne}

is_false : (b : Bool) → not b ≡ true → b ≡ false
is_false true e = sym e
is_false false e = refl

pub returns-then-id-len-clause-absent : goal.returns-then-id-len-clause-absent
returns-then-id-len-clause-absent c =
    not_apart-other c.args.terms.now c.args.apart.now c.args.term.now c.in_ok-id.field-0.now c.in_ok-id.ensures.value
    (λ below. elim c.then-id-len.branch [
      | then-id-len-via-then-id-len w ↦ absurd (omega (arith, w.if-id-len.true, c.len.ensures, below))
      | then-id-len-via-else-id-len+then-ne w ↦ other-term c.args.terms.now c.args.term.now c.in_ok-id.field-0.now
          w.get-else-id-len.result.now below w.get-else-id-len.ensures (is_false _ (sym w.ne.ensures ∙ w.if-ne.true))
    ])
