use Rattle.col_index.proofs.RankedRunLemmas.{run_row}
use Rattle.col_index.proofs.row_runs.RowRuns.select_near.Goals as goal

pub returns-clause-row : goal.returns-clause-row
returns-clause-row c =
    run_row c.args.self.now.rows c.seek_rank.new.near.run c.args.rank c.row_with.result c.seek_rank.ensures.near c.seek_rank.ensures.rank
    c.row_with.ensures
