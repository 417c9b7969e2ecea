use Rattle.std.proofs.Common.{◌≡◌, ◌++◌, take, drop}
use Rattle.col_model.specs.Codecs.{offset_from}
use Rattle.col_codecs.specs.LinearParams.{params_seen}
use Rattle.col_codecs.specs.Turning.{by_position}
use Rattle.col_codecs.proofs.linear.offsets.LinearParamsTurn.turn.Given as goal

abbrev pub invariant-loop-at : goal.invariant-loop-at
invariant-loop-at l = l.vals ≡ by_position (offset_from (params_seen l.self)) l.start (take l.at l.initial.vals) ++ drop l.at l.initial.vals
