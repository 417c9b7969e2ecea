use Rattle.std.proofs.Common.{◌≡◌, ◌<◌, ◌+◌, ◌*◌, ◌^◌, ℕ, List, length, slice_index_or, arith, refl, ◌∙◌}
use Rattle.std.specs.List.{AllByRecursion}
use Rattle.col_codecs.proofs.FoundLemmas.{fit_by_one, map_by_one}
use Rattle.col_codecs.proofs.PackingLemmas.{replaced, replaced-push, next-holds}
use Rattle.col_codecs.proofs.bitpacked.take_values.Goals as goal

fits : (low d n : ℕ) (ks now : List ℕ) → now ≡ replaced (λ k. low + d * k) ks n → n < length now
    → AllByRecursion (λ k. low + d * k < 2 ^ 64) ks → low + d * slice_index_or now n 0 < 2 ^ 64
fits low d n ks now e h all = next-holds (λ k. low + d * k < 2 ^ 64) (λ k. low + d * k) ks now n e h all

pub overflow_mul-steps : goal.overflow_mul-steps
overflow_mul-steps c =
    omega (
      arith,
      fits c.args.stats.now.min_value c.args.stats.now.gcd c.loop-at.at c.args.steps.now c.loop-at.steps
          c.loop-at.invariant (omega arith) c.requires,
    )

pub overflow_add-steps : goal.overflow_add-steps
overflow_add-steps c =
    omega (
      arith,
      fits c.args.stats.now.min_value c.args.stats.now.gcd c.loop-at.at c.args.steps.now c.loop-at.steps
          c.loop-at.invariant (omega arith) c.requires,
    )

pub loop-at-preserved : goal.loop-at-preserved
loop-at-preserved c =
    let s = c.args.stats.now in
    replaced-push (λ k. s.min_value + s.gcd * k) c.args.steps.now c.loop-at.steps c.loop-at.at _ c.loop-at.invariant (omega arith) refl

pub raise-requires : goal.raise-requires
raise-requires c = fit_by_one c.args.stats.now.min_value c.args.stats.now.gcd c.args.steps.now c.if-gcd-eq1.true c.requires

pub returns-then-gcd-eq1 : goal.returns-then-gcd-eq1
returns-then-gcd-eq1 c = c.raise.ensures ∙ map_by_one c.args.stats.now.min_value c.args.stats.now.gcd c.args.steps.now c.if-gcd-eq1.true
