use Rattle.std.proofs.Common.{◌∙◌, arith}
use Rattle.col_index.proofs.RankedRunLemmas.{run_ranked, run_follows}
use Rattle.col_index.proofs.row_runs.RowRuns.enter_run.Goals as goal

pub returns-clause-stands : goal.returns-clause-stands
returns-clause-stands c =
    let s = c.args.self.now in
    let near = c.run_with-near in
    let row = c.from-at.ensures ∙ c.row_with.ensures in
    record {
      ranked =
          run_ranked s near.result.run c.args.at.now.place c.from-at.result c.rows_rise.ensures near.ensures.run near.ensures.rank
          row;
      follow =
          run_follows s.rows near.result.run c.args.at.now.place c.from-at.result _ near.ensures.run near.ensures.rank row
          (omega (arith, c.from-2.ensures, c.from-3.ensures));
    }
