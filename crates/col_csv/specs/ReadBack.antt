-- What the text of a table reads back as.
use Rattle.std.specs.Prelude.{◌≡◌}
use Rattle.csv.specs.Reading.{default_config, strip_bom, AreRecords}
use Rattle.csv.specs.declared.parser.State.TheVariants as st
use Rattle.col_model.specs.Table.{Table}
use Rattle.col_csv.specs.Csv.{csv_of, records_of}

-- The kit's reader, at its defaults and with no header row, finds the records of the table in its
-- text and no other; no byte order mark stands in front of them.
pub record ReadsBack (t : Table) : Type 0 where
  pub records :
      AreRecords default_config st.StartRecord (csv_of t) (records_of t.columns t.row_count)
  pub unmarked : strip_bom (csv_of t) ≡ csv_of t

-- The text of each table reads back.
abbrev pub TextsReadBack : Type 0
TextsReadBack = (t : Table) → ReadsBack t
