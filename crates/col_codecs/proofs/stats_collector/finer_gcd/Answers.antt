use Rattle.std.proofs.Common.{sym, ◌∙◌, ap}
use Rattle.col_model.specs.Stats.{gcd}
use Rattle.col_codecs.proofs.StatsLemmas.{gcd-one, gcd-swap}
use Rattle.col_codecs.proofs.stats_collector.finer_gcd.Goals as goal

pub returns-then-increment_gcd-eq1 : goal.returns-then-increment_gcd-eq1
returns-then-increment_gcd-eq1 c = sym (ap (λ k. gcd k c.args.difference) c.if-increment_gcd-eq1.true ∙ gcd-one c.args.difference)

pub returns-else-increment_gcd-eq1 : goal.returns-else-increment_gcd-eq1
returns-else-increment_gcd-eq1 c = c.compute_gcd.ensures.value ∙ gcd-swap c.args.difference c.args.increment_gcd
