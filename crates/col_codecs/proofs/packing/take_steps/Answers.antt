use Rattle.std.proofs.Common.{◌-◌, ◌/◌, ◌≡◌, slice_index_or, sym, ◌∙◌, ap, arith, div-one, refl}
use Rattle.col_codecs.proofs.PackingLemmas.{replaced-push}
use Rattle.col_codecs.proofs.packing.take_steps.Goals as goal

pub loop-at-preserved : goal.loop-at-preserved
loop-at-preserved c =
    let s = c.args.stats.now in
    let x = slice_index_or c.loop-at.vals c.loop-at.at 0 in
    let whole : x - s.min_value ≡ (x - s.min_value) / s.gcd =
    sym (div-one (x - s.min_value)) ∙ ap (λ k. (x - s.min_value) / k) (sym c.if-gcd-eq1.true) in
    replaced-push (λ v. (v - s.min_value) / s.gcd) c.args.vals.now c.loop-at.vals c.loop-at.at (x - s.min_value)
    c.loop-at.invariant (omega arith) whole

pub loop-at-else-gcd-eq1-preserved : goal.loop-at-else-gcd-eq1-preserved
loop-at-else-gcd-eq1-preserved c =
    let s = c.args.stats.now in
    let x = slice_index_or c.loop-at-else-gcd-eq1.vals c.loop-at-else-gcd-eq1.at 0 in
    replaced-push (λ v. (v - s.min_value) / s.gcd) c.args.vals.now c.loop-at-else-gcd-eq1.vals
    c.loop-at-else-gcd-eq1.at ((x - s.min_value) / s.gcd) c.loop-at-else-gcd-eq1.invariant (omega arith) refl
