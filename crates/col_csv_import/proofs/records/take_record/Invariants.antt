use Rattle.csv.specs.Records.{fields_of}
use Rattle.col_csv_import.proofs.FillLemmas.{IsFilling}
use Rattle.col_csv_import.proofs.records.take_record.Given as goal

abbrev pub invariant-loop-place : goal.invariant-loop-place
invariant-loop-place l = IsFilling l.row (fields_of l.fields) l.initial.columns l.columns l.place
