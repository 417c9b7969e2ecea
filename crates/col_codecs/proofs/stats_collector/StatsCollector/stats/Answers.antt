use Rattle.std.proofs.Common.{◌∙◌}
use Rattle.col_codecs.specs.ColumnStats.{Collected}
use Rattle.col_codecs.proofs.StatsLemmas.{stats_of-collected}
use Rattle.col_codecs.proofs.stats_collector.StatsCollector.stats.Goals as goal

pub returns : goal.returns
returns c = λ xs e.
    let s = c.self.inside in
    let held : Collected = record { least = s.min_value; greatest = s.max_value; divisor = s.increment_gcd; count = s.num_rows } in
    stats_of-collected held xs c.max.result c.max.ensures (c.self.view_is ∙ e)
