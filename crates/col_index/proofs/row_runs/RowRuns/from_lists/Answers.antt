use Rattle.std.proofs.Common.{sym, subst}
use Rattle.std.proofs.lemmas.Result.{err_from_is_err_and}
use Rattle.col_numbers.proofs.BlockReaderLemmas.{refuses-list}
use Rattle.col_common.specs.Decoding.{Decodes}
use Rattle.col_model.specs.Index.{RowSet}
use Rattle.col_numbers.specs.Readers.{list_of}
use Rattle.col_index.specs.Runs.{run_sums, runs_by}
use Rattle.col_index.proofs.RunTakenLemmas.{runs_by-none, runs_summed, runs_by-summed}
use Rattle.col_index.proofs.row_runs.RowRuns.from_lists.Goals as goal

pub returns-in_err-sums : goal.returns-in_err-sums
returns-in_err-sums c =
    let n = c.args.num_rows in
    let starts = list_of c.args.starts in
    let lengths = list_of c.args.lengths in
    let p = err_from_is_err_and c.from_residual.result c.from_residual.ensures.1 in
    rw (p.1, p.2) (refuses-list c.in_err-sums.field-0.0 (run_sums n starts lengths) (runs_by n starts lengths)
    (runs_by-none n starts lengths) c.in_err-sums.ensures.before)

pub from_sums-requires : goal.from_sums-requires
from_sums-requires c = record {
  summed =
      runs_summed c.args.num_rows (list_of c.args.starts) (list_of c.args.lengths) c.in_ok-sums.sums.before.items
      c.in_ok-sums.ensures.before;
  apart = c.in_ok-sums.ensures.gaps;
}

pub returns : goal.returns
returns c =
    let rows = runs_by-summed c.args.num_rows (list_of c.args.starts) (list_of c.args.lengths) c.in_ok-sums.sums.before.items
    c.in_ok-sums.ensures.before in
    subst (Decodes (λ (runs : RowSet). runs) c.from_sums.result) (sym rows) c.from_sums.ensures
