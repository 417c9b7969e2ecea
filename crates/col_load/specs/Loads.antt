-- Documents in lines, and their table. States docs/RULES.md, Documents.
use Rattle.std.specs.Prelude.{ℕ, ◌+◌, ◌^◌, ◌==◌, ◌||◌, nat_le, nat_lt, Bool, true, false, List, [], ◌∷◌, ◌++◌, map, length, None, Result, Ok, Err, if◌then◌else◌}
use Rattle.std.specs.List.{list_all, slice_split, count_by}
use Rattle.col_documents.specs.Documents.{Field, Fields, Refusal, fields_of}
use Rattle.col_documents.specs.Forms.{Forms}
use Rattle.col_model.specs.Recording.{Call, recorded, content_after_all}
use Rattle.col_model.specs.Refusal as model
use Rattle.col_model.specs.Refusal.{◌>>=◌}
use Rattle.col_model.specs.Table.{Table}
use Rattle.col_model.specs.Written.{written}

-- what a document says
abbrev pub Document : Type 0
Document = List Field

-- why lines aren't loaded: a line, by its number; more lines or documents than can be counted; a
-- table that can't be
pub data Stop : Type 0 where
  bad_line : ℕ → Refusal → Stop
  too_many : Stop
  no_table : model.Refusal → Stop

-- a tab, a carriage return or a space
abbrev pub is_blank_byte : ℕ → Bool
is_blank_byte b = b == 9 || b == 13 || b == 32

-- nothing else stands in the line
abbrev pub is_blank : List ℕ → Bool
is_blank line = list_all is_blank_byte line

-- the document, none where it is passed over, or the refusal of a line with this number
abbrev pub document_in : Bool → ℕ → Fields → Result (List Document) Stop
document_in skips number (Ok fields) = Ok (fields ∷ [])
document_in true number (Err refusal) = Ok []
document_in false number (Err refusal) = Err (bad_line number refusal)

-- the document of a line with a number: none of a blank line, nor, where such are skipped, of a bad
-- one
abbrev pub line_documents : Forms → Bool → ℕ → List ℕ → Result (List Document) Stop
line_documents forms skips number line =
    if nat_le (2 ^ 64) number then Err too_many
    else if is_blank line then Ok []
    else document_in skips number (fields_of forms line)

-- some documents and then others, or the first stop
abbrev pub both : Result (List Document) Stop → Result (List Document) Stop
    → Result (List Document) Stop
both (Ok ds) (Ok es) = Ok (ds ++ es)
both (Ok ds) (Err e) = Err e
both (Err e) others = Err e

-- the documents of lines that are numbered from a number on
abbrev pub documents_from : Forms → Bool → ℕ → List (List ℕ) → Result (List Document) Stop
documents_from forms skips number [] = Ok []
documents_from forms skips number (line ∷ lines) =
    both (line_documents forms skips number line) (documents_from forms skips (number + 1) lines)

-- the lines of a text, between its line feeds
abbrev pub lines_of : List ℕ → List (List ℕ)
lines_of bytes = slice_split (λ b. b == 10) bytes

-- the documents of a text
abbrev pub documents_of : Forms → Bool → List ℕ → Result (List Document) Stop
documents_of forms skips bytes = documents_from forms skips 1 (lines_of bytes)

-- whether fields were refused
abbrev pub is_refused : Fields → Bool
is_refused (Ok fields) = false
is_refused (Err refusal) = true

-- whether the line is a bad one: not blank, and no document
abbrev pub is_bad : Forms → List ℕ → Bool
is_bad forms line = if is_blank line then false else is_refused (fields_of forms line)

-- how many lines there are, and how many of them are bad: where there is a table, these are skipped
abbrev pub counts_of_lines : Forms → List (List ℕ) → ℕ × ℕ
counts_of_lines forms lines = (length lines, count_by (is_bad forms) lines)

-- the record call of a field of document d
abbrev pub call_at : ℕ → Field → Call
call_at d f = recorded d f.path f.column_type f.cell

-- those of a document's fields
abbrev pub calls_at : ℕ → Document → List Call
calls_at d fields = map (call_at d) fields

-- those of documents from d on
abbrev pub calls_from : ℕ → List Document → List Call
calls_from d [] = []
calls_from d (fields ∷ docs) = calls_at d fields ++ calls_from (d + 1) docs

-- a table, or the stop of its refusal
abbrev pub or_no_table : Result Table model.Refusal → Result Table Stop
or_no_table (Ok table) = Ok table
or_no_table (Err refusal) = Err (no_table refusal)

-- the most documents that a file may have
abbrev pub max_documents : ℕ
max_documents = 4294967295

-- the table of documents, a row for each
abbrev pub table_of_documents : List Document → Result Table Stop
table_of_documents docs =
    if nat_lt max_documents (length docs) then Err too_many
    else or_no_table
    (content_after_all [] (calls_from 0 docs) >>= λ w. written w (length docs) None)

-- the table of documents that were read
abbrev pub table_of_read : Result (List Document) Stop → Result Table Stop
table_of_read (Ok docs) = table_of_documents docs
table_of_read (Err stop) = Err stop

-- The table of a text: its documents in order, as rows.
unfoldable pub table_of_lines : Forms → Bool → List ℕ → Result Table Stop
table_of_lines forms skips bytes = table_of_read (documents_of forms skips bytes)
