use Rattle.std.proofs.Common.{arith}
use Rattle.col_merge_plan.proofs.ListLemmas.{files-more}
use Rattle.col_merge_plan.proofs.slots.push_files.Goals as goal

pub loop-reader-preserved : goal.loop-reader-preserved
loop-reader-preserved g c =
    files-more c.args.slots.now.items c.loop-reader.slots.items c.push_columns.new.slots.items
    c.args.columnar_readers.now c.loop-reader.reader-index c.reader-item.result (omega arith) c.reader-item.is
    c.loop-reader.invariant c.in_ok-push_columns.ensures
