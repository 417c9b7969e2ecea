use Rattle.std.proofs.Common.{◌≡◌, ◌<◌, ◌^◌, sum, take}
use Rattle.col_merge_plan.specs.Slots.{counts_read}
use Rattle.col_merge.proofs.stack_from_readers.total.Given as goal

abbrev pub invariant-loop-reader : goal.invariant-loop-reader
invariant-loop-reader g l = (l.sum ≡ sum (counts_read (take l.reader-index l.columnar_readers))) × (l.sum < 2 ^ 32)
