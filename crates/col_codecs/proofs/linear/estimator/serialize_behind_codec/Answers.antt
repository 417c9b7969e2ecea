use Rattle.std.proofs.Common.{arith}
use Rattle.std.proofs.lemmas.Result.{err_from_is_err_and}
use Rattle.col_common.proofs.SerializingLemmas.{serializes-as, serializes-stopped, serializes-then}
use Rattle.col_codecs.specs.ColumnStats.{stats_seen}
use Rattle.col_codecs.specs.LinearParams.{params_seen}
use Rattle.col_codecs.proofs.PossibleLemmas.{IsPossible-stats_of}
use Rattle.col_codecs.proofs.TurningLemmas.{all_of}
use Rattle.col_codecs.proofs.EstimateLemmas.{linear_width, linear_fit, linear_body-parts}
use Rattle.col_codecs.proofs.linear.estimator.serialize_behind_codec.Goals as goal

pub serialize-requires : goal.serialize-requires
serialize-requires g c =
    IsPossible-stats_of (stats_seen c.args.stats.now) (g.I.Iterable.items c.args.vals.now) c.requires.stats
    (omega arith)

pub returns-in_err-serialize-2 : goal.returns-in_err-serialize-2
returns-in_err-serialize-2 g c =
    let p = err_from_is_err_and c.from_residual-in_err-serialize-2.result c.from_residual-in_err-serialize-2.ensures.1 in
    rw (p.1, p.2) (serializes-stopped _ _ _ _ _ (serializes-then _ _ _ _ _ _ _ c.in_ok-serialize.ensures.ok c.in_err-serialize-2.ensures))

pub serialize_turned-requires-clause-width : goal.serialize_turned-requires-clause-width
serialize_turned-requires-clause-width g c = linear_width (params_seen c.args.params) (g.I.Iterable.items c.args.vals.now) c.requires.line

pub serialize_turned-requires-clause-packable : goal.serialize_turned-requires-clause-packable
serialize_turned-requires-clause-packable g c = record {
  taken = all_of (λ x. tt) (g.I.Iterable.items c.args.vals.now);
  small = linear_fit (params_seen c.args.params) (g.I.Iterable.items c.args.vals.now) c.requires.line;
  count = omega (arith, c.requires.count);
}

pub returns : goal.returns
returns g c = serializes-as _ _ _ _ _
    (serializes-then _ _ _ _ _ _ _ c.in_ok-serialize.ensures.ok
    (serializes-then _ _ _ _ _ _ _ c.in_ok-serialize-2.ensures c.serialize_turned.ensures))
    (linear_body-parts (g.I.Iterable.items c.args.vals.now) (stats_seen c.args.stats.now)
    (params_seen c.args.params) c.requires.stats c.requires.line)
