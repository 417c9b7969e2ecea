use Rattle.std.proofs.Common.{◌≡◌, ◌++◌, take, drop}
use Rattle.col_codecs.specs.Line.{raised}
use Rattle.col_codecs.specs.Turning.{by_position}
use Rattle.col_codecs.proofs.line.Line.add_to.Given as goal

abbrev pub invariant-loop-at : goal.invariant-loop-at
invariant-loop-at l =
    l.offsets ≡ by_position (raised l.self.slope l.self.intercept) l.start (take l.at l.initial.offsets)
    ++ drop l.at l.initial.offsets
