use Rattle.std.proofs.Common.{◌≡◌, take}
use Rattle.col_segments.specs.Segments.{alive_count}
use Rattle.col_segments.proofs.held.count_alive.Given as goal

abbrev pub invariant-loop-place : goal.invariant-loop-place
invariant-loop-place l = l.count ≡ alive_count (take l.place l.held)
