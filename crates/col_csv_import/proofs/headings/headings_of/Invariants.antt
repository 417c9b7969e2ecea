use Rattle.csv.specs.Records.{fields_of}
use Rattle.col_csv_import.proofs.HeadingLemmas.{AreRead}
use Rattle.col_csv_import.proofs.headings.headings_of.Given as goal

abbrev pub invariant-loop-place : goal.invariant-loop-place
invariant-loop-place l = AreRead (fields_of l.fields) l.place l.headings.items
