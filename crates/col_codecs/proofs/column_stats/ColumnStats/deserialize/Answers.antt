use Rattle.std.proofs.Common.{sym}
use Rattle.col_codecs.proofs.PossibleLemmas.{IsPossible-stats_at}
use Rattle.col_codecs.proofs.column_stats.ColumnStats.deserialize.Goals as goal

pub returns-in-Some-clause-possible : goal.returns-in-Some-clause-possible
returns-in-Some-clause-possible c = IsPossible-stats_at _ _ _ (sym c.in-Some.ensures)
