use Rattle.std.proofs.Common.{◌≡◌, ◌<◌, ◌+◌, ℕ, length, slice_index, take, sum}
use Rattle.col_index.proofs.windows.sum_up.Given as goal

abbrev pub invariant-loop-at : goal.invariant-loop-at
invariant-loop-at l = record {
  long : length l.table ≡ length l.fn.table;
  run : l.run ≡ l.fn.first + sum (take l.at l.marks);
  filled : (i : ℕ) → i < l.at → slice_index l.table i ≡ l.fn.first + sum (take i l.marks);
}
