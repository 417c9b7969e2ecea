use Rattle.std.proofs.Common.{sym, ap}
use Rattle.col_model.specs.Index.{RowSet, are_runs, run_rows}
use Rattle.col_model.proofs.ItemLaws.{only_if-some}
use Rattle.col_numbers.specs.Readers.{list_of}
use Rattle.col_index.proofs.optional_index.OptionalIndex.from_runs.Goals as goal

pub invariant_of-result : goal.invariant_of-result
invariant_of-result c =
    let n = c.args.num_rows in
    let starts = list_of c.args.starts in
    let lengths = list_of c.args.lengths in
    let rows : RowSet = record { num_rows = n; rows = run_rows starts lengths } in
    let read = only_if-some (are_runs n starts lengths) c.in_ok-runs.runs rows (sym c.in_ok-runs.ensures) in
    record {
      rows = c.rows_rise.ensures;
      long = ap (λ (s : RowSet). s.num_rows) (sym read.1);
      bits = c.in_ok-bits.ensures;
    }
