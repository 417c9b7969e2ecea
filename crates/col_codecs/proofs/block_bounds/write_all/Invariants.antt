use Rattle.std.proofs.Common.{◌≡◌, ◌-◌, ◌++◌, take}
use Rattle.std.specs.List.{range_with_len}
use Rattle.col_codecs.proofs.block_bounds.write_all.Given as goal

abbrev pub invariant-loop-place : goal.invariant-loop-place
invariant-loop-place l = take l.place l.output ≡ take l.at l.fn.output ++ range_with_len l.start (l.place - l.at)
