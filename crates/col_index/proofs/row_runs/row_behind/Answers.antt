use Rattle.std.proofs.Common.{arith}
use Rattle.col_index.proofs.RunPlaceLemmas.{rank_behind}
use Rattle.col_index.proofs.row_runs.row_behind.Goals as goal

pub returns : goal.returns
returns c =
    rank_behind c.args.starts.now c.args.row_id c.saturating_add.result c.rows_rise.ensures (omega arith)
    (omega (arith, c.saturating_add.ensures))
