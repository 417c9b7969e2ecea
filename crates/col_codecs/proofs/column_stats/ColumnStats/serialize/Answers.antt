use Rattle.std.proofs.Common.{arith, refl}
use Rattle.col_common.proofs.SerializingLemmas.{serializes-as, serializes-then}
use Rattle.col_codecs.proofs.StatsLemmas.{stats_bytes-pairs}
use Rattle.col_codecs.proofs.PossibleLemmas.{stats_at-possible}
use Rattle.col_codecs.specs.ColumnStats.{stats_seen}
use Rattle.col_codecs.proofs.column_stats.ColumnStats.serialize.Goals as goal

pub returns-clause-ok : goal.returns-clause-ok
returns-clause-ok g c = serializes-as _ _ _ _ _
    (serializes-then _ _ _ _ _ _ _ c.in_ok-serialize_two.ensures c.serialize_two-2.ensures)
    (stats_bytes-pairs c.args.self.now _ c.from.result refl c.from.ensures)

pub returns-clause-again : goal.returns-clause-again
returns-clause-again g c rest = stats_at-possible (stats_seen c.args.self.now) rest c.requires (omega arith) (omega arith) (omega arith)

pub returns-in_err-serialize_two-clause-again : goal.returns-in_err-serialize_two-clause-again
returns-in_err-serialize_two-clause-again g c rest =
    stats_at-possible (stats_seen c.args.self.now) rest c.requires (omega arith) (omega arith) (omega arith)
