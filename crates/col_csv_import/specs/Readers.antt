-- Readers of the records of a text.
use Rattle.std.specs.Prelude.{◌≡◌, ◌≢◌, ℕ, Bool, true, false, List, [], ◌∷◌, length, unwrap_or, Option, Some, Result, Ok, Err, IfSome}
use Rattle.std.specs.Borrow.{Bor}
use Rattle.csv.specs.Machine.{ends_at_end}
use Rattle.csv.specs.Reading.{Ready, default_config, expected_len, has_failed, is_flexible, reader_config, reader_state, reader_trim, records_from, source_of}
use Rattle.csv.specs.declared.error.ErrorKind.{ErrorKind}
use Rattle.csv.specs.declared.error.ErrorKind.TheVariants as kinds
use Rattle.csv.specs.declared.reader.Reader.{Reader}
use Rattle.csv.specs.declared.reader.Trim.TheVariants as trim
use Rattle.col_csv.specs.declared.csv_error.CsvError.{CsvError}
use Rattle.col_csv.specs.declared.csv_error.CsvError.TheVariants.{OutOfMemory, BadCsv}
use Rattle.col_csv_import.specs.Columns.{FilledColumn}
use Rattle.col_csv_import.specs.Made.{IsRefused}
use Rattle.col_csv_import.specs.Rows.{with_rows}

-- a reader of a text in memory
abbrev pub TextReader : Type 0
TextReader = Reader (Bor (List ℕ))

-- what it has left, where it tells
abbrev pub text_left : TextReader → Option (List ℕ)
text_left rdr = source_of (λ s. Some s.now) rdr

-- It reads as the kit's reader does by its defaults, with no header row, and stands between two
-- records.
pub record IsReading (rdr : TextReader) : Type 0 where
  pub ready : Ready rdr
  pub trim : reader_trim rdr ≡ trim.None
  pub flexible : is_flexible rdr ≡ false
  pub config : reader_config rdr ≡ default_config
  pub sound : has_failed rdr ≡ false
  pub text : List ℕ
  pub left : text_left rdr ≡ Some text
  pub between : ends_at_end (reader_state rdr) ≡ false

-- the records that it has left
unfoldable pub left_of : TextReader → List (List (List ℕ))
left_of rdr =
    let text = unwrap_or (text_left rdr) [] in
    records_from default_config (length text) (reader_state rdr) text

-- it took a record of these fields, which has so many as the first
pub record TookFields (old new : TextReader) (fields : List (List ℕ)) : Type 0 where
  pub reading : IsReading new
  pub left : left_of old ≡ fields ∷ left_of new
  pub width : expected_len new ≡ Some (length fields)
  pub same : IfSome (expected_len old) (λ n. n ≡ length fields)

-- the next record has another number of fields than the first
pub record IsUneven (old : TextReader) : Type 0 where
  pub fields : List (List ℕ)
  pub rest : List (List (List ℕ))
  pub left : left_of old ≡ fields ∷ rest
  pub width : ℕ
  pub expected : expected_len old ≡ Some width
  pub other : width ≢ length fields

-- A record was read, or none is left; BadCsv comes where the next one has another number of fields
-- than the first.
abbrev pub ReadsRecord : TextReader → TextReader → List (List ℕ) → Result Bool CsvError → Type 0
ReadsRecord old new fields (Ok true) = TookFields old new fields
ReadsRecord old new fields (Ok false) = left_of old ≡ []
ReadsRecord old new fields (Err OutOfMemory) = Unit {0}
ReadsRecord old new fields (Err BadCsv) = IsUneven old
ReadsRecord old new fields (Err _) = ⊥

-- the refusal that an error of the reader is
abbrev pub refusal_of_kind : ErrorKind → CsvError
refusal_of_kind (kinds.UnequalLengths pos expected len) = BadCsv
refusal_of_kind _ = OutOfMemory

-- All records were taken, each of so many fields, and their number is told; BadCsv comes where they
-- make no columns.
abbrev pub TakesAll : ℕ → List (List (List ℕ)) → List FilledColumn → List FilledColumn
    → Result ℕ CsvError → Type 0
TakesAll width rows old new (Ok count) =
    (with_rows width 0 rows old ≡ Some new) × (count ≡ length rows)
TakesAll width rows old new (Err e) = IsRefused e (with_rows width 0 rows old)
