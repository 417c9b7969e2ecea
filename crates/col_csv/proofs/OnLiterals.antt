-- What is computed on literal tables: the definitions that a test unfolds.
use Rattle.std.specs.Prelude.{⊤}
use Rattle.csv.specs.Writing.{escaped, fields_text, is_blank}
use Rattle.csv.proofs.OnLiterals.{csv_on_literals}
use Rattle.hex.specs.Hex.{encode_with, decode_pairs}
use Rattle.col_model.proofs.OnLiterals.{col_model_on_literals}
use Rattle.col_csv.specs.Csv.{record_text, csv_of}
use Rattle.col_csv.specs.CsvTable.{table_of_csv}

-- what a proof unfolds to compute the text of a table, and the table of a text
unfoldable pub col_csv_on_literals : ⊤
unfolding col_model_on_literals csv_on_literals escaped fields_text is_blank encode_with decode_pairs record_text csv_of table_of_csv
col_csv_on_literals = tt
