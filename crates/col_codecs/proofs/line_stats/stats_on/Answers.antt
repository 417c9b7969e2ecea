use Rattle.std.proofs.Common.{sym}
use Rattle.std.proofs.lemmas.List.FromFn.{length-map-range_with_len}
use Rattle.col_codecs.specs.OnLine.{on_line, values_on}
use Rattle.col_codecs.proofs.LineStatsLemmas.{stats-by}
use Rattle.col_codecs.proofs.line_stats.stats_on.Goals as goal

pub returns : goal.returns
returns c =
    let l = c.args.line in
    let are = c.bounds_on-bounds.ensures in
    stats-by (values_on l 0 c.args.count) _ _ _ _ are.least are.greatest c.divisor_on.ensures
    (sym (length-map-range_with_len (on_line l) 0 c.args.count))
