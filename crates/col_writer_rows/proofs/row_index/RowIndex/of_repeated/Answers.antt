use Rattle.std.proofs.Common.{arith, ◌<◌, ◌^◌}
use Rattle.col_writer_rows.proofs.IndexLemmas.{repeated-indexed}
use Rattle.col_writer_rows.proofs.row_index.RowIndex.of_repeated.Goals as goal

pub returns : goal.returns
returns c =
    let fits : c.args.num_rows < 2 ^ 32 = omega arith in
    repeated-indexed c.args.num_rows c.args.docs.now c.in_ok-rows.rows.items c.in_ok-rows.starts.items fits
    c.requires.few c.requires.repeated c.never_fall.ensures c.requires.below c.in_ok-rows.ensures.0
    c.in_ok-rows.ensures.1
