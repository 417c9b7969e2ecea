use Rattle.std.proofs.Common.{◌≡◌, ◌<◌, ◌+◌, ℕ, length, slice_index, take, if◌then◌else◌}
use Rattle.col_index.specs.Sets.{holds}
use Rattle.col_index.proofs.windows.mark.Given as goal

abbrev pub invariant-loop-at : goal.invariant-loop-at
invariant-loop-at l = record {
  long : length l.marks ≡ length l.fn.marks;
  noted : (i : ℕ) → i < l.last → slice_index l.marks i ≡ if holds (take l.at l.block) (l.behind + i) then 1 else 0;
}
