use Rattle.std.proofs.Common.{arith}
use Rattle.col_model.specs.Positions.{rows_with_value}
use Rattle.col_indexer.specs.Spelling.{row_set_by}
use Rattle.col_indexer.specs.Stacks.{stacked_counts}
use Rattle.col_indexer.proofs.FoundRunLemmas.{found-fit, found-few, found-written}
use Rattle.col_indexer.proofs.RowWritingLemmas.{told-same}
use Rattle.col_indexer.proofs.serialize_rows.serialize_stacked_rows.Goals as goal

pub num_rows-requires : goal.num_rows-requires
num_rows-requires g c =
    let s = row_set_by c.args.num_rows (rows_with_value (stacked_counts c.args.rows.now)) in
    found-few s c.in-Some.runs c.requires (rw c.in-Some.is at c.in_ok-runs.ensures)

pub runs_pay-requires : goal.runs_pay-requires
runs_pay-requires g c =
    let s = row_set_by c.args.num_rows (rows_with_value (stacked_counts c.args.rows.now)) in
    omega (arith, c.len.ensures, found-fit s c.in-Some.runs c.requires (rw c.in-Some.is at c.in_ok-runs.ensures))

pub serialize_runs-requires : goal.serialize_runs-requires
serialize_runs-requires g c =
    let s = row_set_by c.args.num_rows (rows_with_value (stacked_counts c.args.rows.now)) in
    found-fit s c.in-Some.runs c.requires (rw c.in-Some.is at c.in_ok-runs.ensures)

pub returns-then-runs_pay : goal.returns-then-runs_pay
returns-then-runs_pay g c =
    let s = row_set_by c.args.num_rows (rows_with_value (stacked_counts c.args.rows.now)) in
    let told = told-same _ _ _ _ _ (found-written s c.in-Some.runs c.requires (rw c.in-Some.is at c.in_ok-runs.ensures)
    _ _ c.len.ensures c.num_rows.ensures c.if-runs_pay.ensures)
    c.serialize_runs.ensures.ok c.serialize_runs.ensures.length in
    record { ok = told.ok; length = told.length }
