-- Records of CSV as documents, and their table. States docs/RULES.md, Documents.
use Rattle.std.specs.Prelude.{ℕ, ◌+◌, Bool, true, false, List, [], ◌∷◌, ◌++◌, drop, length, map, filter, get_or, bytes_eq, Result, Ok, Err, if◌then◌else◌}
use Rattle.std.specs.List.{count_by}
use Rattle.std.specs.Result.{is_ok}
use Rattle.csv.specs.Reading.{default_config, records, strip_bom}
use Rattle.col_documents.specs.Documents.{Refusal}
use Rattle.col_documents.specs.Forms.{Forms}
use Rattle.col_model.specs.Table.{Table}
use Rattle.col_load.specs.Loads.{Document, Stop, bad_line, document_in, both, is_refused, table_of_documents, table_of_read}
use Rattle.col_load_csv.specs.Columns.{CsvColumn, columns_of, document_of}
use Rattle.col_load_csv.specs.Kinds.{kind_of}

-- ---- kinds

-- records that are documents
abbrev pub taken : List CsvColumn → List (List (List ℕ)) → List (List (List ℕ))
taken columns rows = filter (λ fields. is_ok (document_of columns fields)) rows

-- a field isn't empty
abbrev pub is_filled : List ℕ → Bool
is_filled [] = false
is_filled (b ∷ bs) = true

-- the fields at a place of records, but for those that are empty
abbrev pub texts_at : ℕ → List (List (List ℕ)) → List (List ℕ)
texts_at place rows = filter is_filled (map (λ fields. get_or fields place []) rows)

-- those of one column, where it has the name
abbrev pub texts_under : List ℕ → List (List (List ℕ)) → CsvColumn → ℕ → List (List ℕ)
texts_under name rows column place =
    if bytes_eq column.name name then texts_at place rows else []

-- those of all columns with the name, the first of which is at a place
abbrev pub texts_from : List ℕ → List (List (List ℕ)) → ℕ → List CsvColumn → List (List ℕ)
texts_from name rows place [] = []
texts_from name rows place (column ∷ columns) =
    texts_under name rows column place ++ texts_from name rows (place + 1) columns

-- the column, with the kind that the fields of all columns with its name are of
abbrev pub decided_by : List CsvColumn → List (List (List ℕ)) → CsvColumn → CsvColumn
decided_by columns rows column = record {
  name = column.name;
  form = column.form;
  kind = kind_of (texts_from column.name rows 0 columns);
}

-- the columns, with the kinds that the fields of the records that are taken are of
abbrev pub decided : List CsvColumn → List (List (List ℕ)) → List CsvColumn
decided columns rows = map (decided_by columns (taken columns rows)) columns

-- ---- tables

-- the documents of records that are numbered from a number on
abbrev pub documents_from : List CsvColumn → Bool → ℕ → List (List (List ℕ))
    → Result (List Document) Stop
documents_from columns skips number [] = Ok []
documents_from columns skips number (fields ∷ rows) =
    both (document_in skips number (document_of columns fields))
    (documents_from columns skips (number + 1) rows)

-- the number of the first record, and that of the next one
abbrev pub header_number : ℕ
header_number = 1

abbrev pub first_number : ℕ
first_number = 2

-- the table of records under columns whose kinds aren't known yet
abbrev pub table_under : Bool → List (List (List ℕ)) → Result (List CsvColumn) Refusal
    → Result Table Stop
table_under skips rows (Ok columns) =
    table_of_read (documents_from (decided columns rows) skips first_number rows)
table_under skips rows (Err refusal) = Err (bad_line header_number refusal)

-- the table of records, of which the first one has the names of columns
abbrev pub table_of_records : Forms → Bool → List (List (List ℕ)) → Result Table Stop
table_of_records forms skips [] = table_of_documents []
table_of_records forms skips (names ∷ rows) = table_under skips rows (columns_of forms names)

-- the records which the kit's reader finds in a text at its defaults, with no header row, behind a
-- byte order mark if there is one
abbrev pub text_records : List ℕ → List (List (List ℕ))
text_records bytes = records default_config (strip_bom bytes)

-- The table of a text: that of its records.
unfoldable pub table_of_csv_documents : Forms → Bool → List ℕ → Result Table Stop
table_of_csv_documents forms skips bytes = table_of_records forms skips (text_records bytes)

-- the documents of the records behind the first one
abbrev pub documents_behind : List CsvColumn → Bool → List ℕ → Result (List Document) Stop
documents_behind columns skips bytes =
    documents_from columns skips first_number (drop 1 (text_records bytes))

-- ---- counts

-- whether a record behind the first one is bad
abbrev pub is_bad : List CsvColumn → List (List ℕ) → Bool
is_bad columns fields = is_refused (document_of columns fields)

-- how many records there are with the first one, and how many of those behind it are bad: where
-- there is a table, these are skipped
abbrev pub counts_behind : List CsvColumn → List (List (List ℕ)) → ℕ × ℕ
counts_behind columns rows = (length rows + 1, count_by (is_bad columns) rows)

-- the counts of records under columns whose kinds aren't known yet
abbrev pub counts_under : List (List (List ℕ)) → Result (List CsvColumn) Refusal → ℕ × ℕ
counts_under rows (Ok columns) = counts_behind (decided columns rows) rows
counts_under rows (Err refusal) = (length rows + 1, 0)

-- those of records, of which the first one has the names of columns
abbrev pub counts_of_records : Forms → List (List (List ℕ)) → ℕ × ℕ
counts_of_records forms [] = (0, 0)
counts_of_records forms (names ∷ rows) = counts_under rows (columns_of forms names)

-- The counts of a text.
unfoldable pub counts_of_csv_records : Forms → List ℕ → ℕ × ℕ
counts_of_csv_records forms bytes = counts_of_records forms (text_records bytes)
