use Rattle.std.proofs.Common.{length}
use Rattle.csv.specs.Records.{fields_of}
use Rattle.col_csv_import.specs.Readers.{left_of}
use Rattle.col_csv_import.proofs.TakeLemmas.{IsTaking}
use Rattle.col_csv_import.proofs.records.take_records.Given as goal

abbrev pub invariant-loop-row : goal.invariant-loop-row
invariant-loop-row l =
    IsTaking (length (fields_of l.initial.fields)) (left_of l.initial.reader) l.initial.columns l.reader l.columns l.row
