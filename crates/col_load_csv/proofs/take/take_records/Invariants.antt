use Rattle.std.proofs.Common.{drop, length, map}
use Rattle.csv.specs.Reading.{strip_bom}
use Rattle.col_load_csv.specs.Documents.{text_records}
use Rattle.col_load_csv.specs.Read.{column_read}
use Rattle.col_load_csv.proofs.TakingLemmas.{IsTaking}
use Rattle.col_load_csv.proofs.take.take_records.Given as goal

-- the records so far were taken, and the others are left
abbrev pub invariant-loop : goal.invariant-loop
invariant-loop l =
    IsTaking (map column_read l.columns) l.skips (drop 1 (text_records l.text)) (length (strip_bom l.text)) l.counter l.reader l.taken
