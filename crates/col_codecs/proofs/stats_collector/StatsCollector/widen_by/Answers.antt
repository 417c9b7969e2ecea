use Rattle.std.proofs.Common.{◌∙◌, ap}
use Rattle.col_codecs.specs.ColumnStats.{Collected}
use Rattle.col_codecs.proofs.BoundLemmas.{collected-block}
use Rattle.col_codecs.proofs.stats_collector.StatsCollector.widen_by.Goals as goal

pub returns : goal.returns
returns c xs ys e are long =
    let s = c.self.inside in
    let held : Collected = record { least = s.min_value; greatest = s.max_value; divisor = s.increment_gcd; count = s.num_rows } in
    collected-block held xs ys c.args.bounds _ _ c.args.count
    (ap (λ (k : Collected). k.divisor) c.self.view_is ∙ c.requires.finest) are c.min-self-inside.ensures
    c.max-self-inside.ensures long (c.self.view_is ∙ e)
