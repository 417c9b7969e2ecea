use Rattle.std.proofs.Common.{slice_index, ap}
use Rattle.col_model.specs.Codecs.{offset_from}
use Rattle.col_model.specs.Training.{less_wrapped}
use Rattle.col_codecs.specs.LinearParams.{params_seen}
use Rattle.col_codecs.proofs.TurningLemmas.{replaced-more}
use Rattle.col_codecs.proofs.linear.offsets.LinearParamsTurn.turn.Goals as goal

pub loop-at-preserved : goal.loop-at-preserved
loop-at-preserved c =
    let y = slice_index c.loop-at.vals c.loop-at.at in
    replaced-more (offset_from (params_seen c.args.self.now)) c.args.start c.loop-at.at
    (less_wrapped y c.eval.result) c.args.vals.now c.loop-at.vals c.loop-at-test.true c.loop-at.invariant
    (ap (less_wrapped y) c.eval.ensures)
