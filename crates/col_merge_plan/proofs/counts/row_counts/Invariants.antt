use Rattle.std.proofs.Common.{◌≡◌, take}
use Rattle.col_merge_plan.specs.Slots.{counts_read}
use Rattle.col_merge_plan.proofs.counts.row_counts.Given as goal

abbrev pub invariant-loop-reader : goal.invariant-loop-reader
invariant-loop-reader g l = l.counts.items ≡ counts_read (take l.reader-index l.columnar_readers)
