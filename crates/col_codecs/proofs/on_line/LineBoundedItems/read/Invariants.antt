use Rattle.std.proofs.Common.{◌≡◌, take, map}
use Rattle.std.specs.List.{range_with_len}
use Rattle.col_codecs.specs.OnLine.{on_line}
use Rattle.col_codecs.proofs.on_line.LineBoundedItems.read.Given as goal

abbrev pub invariant-loop-at : goal.invariant-loop-at
invariant-loop-at l = take l.at l.output ≡ map (on_line l.self) (range_with_len l.start l.at)
