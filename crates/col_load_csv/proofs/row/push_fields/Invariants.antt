use Rattle.csv.specs.Records.{fields_of}
use Rattle.col_documents.proofs.JoinedLemmas.{HavePut}
use Rattle.col_load_csv.proofs.RowLemmas.{pairs, part}
use Rattle.col_load_csv.proofs.row.push_fields.Given as goal

-- the values of the fields before the place are put
abbrev pub invariant-loop-place : goal.invariant-loop-place
invariant-loop-place l =
    HavePut part (pairs l.columns (fields_of l.row)) l.place l.initial.fields.items l.fields.items
