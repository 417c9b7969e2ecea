use Rattle.std.proofs.Common.{◌≡◌, ◌∙◌, ap, sym, subst, arith}
use Rattle.std.specs.Int.{IsGcd}
use Rattle.col_model.proofs.StatsLaws.{IsGcd-gcd}
use Rattle.col_model.specs.Stats.{gcd}
use Rattle.col_codecs.proofs.StatsLemmas.{gcd-step}
use Rattle.col_codecs.proofs.stats_collector.compute_gcd.Goals as goal

pub loop-small-preserved : goal.loop-small-preserved
loop-small-preserved c = gcd-step c.loop-small.large c.loop-small.small (omega arith) ∙ c.loop-small.invariant

pub returns-clause-greatest : goal.returns-clause-greatest
returns-clause-greatest c =
    let large = c.loop-small.large in
    let whole : gcd large 0 ≡ gcd c.args.large c.args.small = ap (gcd large) (sym c.loop-small-test.false) ∙ c.loop-small.invariant in
    subst (IsGcd c.args.large c.args.small) (sym whole) (IsGcd-gcd c.args.large c.args.small)
