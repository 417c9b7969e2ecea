use Rattle.std.proofs.Common.{map}
use Rattle.csv.specs.Records.{fields_of}
use Rattle.col_documents.specs.Forms.{named_form}
use Rattle.col_load_csv.specs.Read.{column_read}
use Rattle.col_load_csv.proofs.HeaderLemmas.{AreNamed}
use Rattle.col_load_csv.proofs.header.columns_of.Given as goal

-- the headings before the place are taken
abbrev pub invariant-loop-place : goal.invariant-loop-place
invariant-loop-place l = AreNamed (map named_form l.forms) (fields_of l.header) l.place (map column_read l.columns.items)
