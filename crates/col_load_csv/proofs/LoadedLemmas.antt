-- Texts that are loaded, or that stop.
use Rattle.std.proofs.Common.{◌≡◌, ◌∙◌, ◌+◌, ℕ, Bool, List, [], ◌∷◌, map, drop, length, Result, Ok, Err, refl, sym, ap, subst, inl}
use Rattle.col_common.specs.Outside.{SeenSink}
use Rattle.csv.specs.Reading.{strip_bom}
use Rattle.col_documents.specs.Forms.{Forms}
use Rattle.col_documents.specs.Read.{refusal_read}
use Rattle.col_documents.specs.declared.refusal.Refusal as refusals
use Rattle.col_load.proofs.FileLemmas.{loads_none}
use Rattle.col_load.specs.Files.{LoadsFile}
use Rattle.col_load.specs.Loading.{IsStop}
use Rattle.col_load.specs.Loads.{Document, Stop, bad_line, too_many, table_of_documents, table_of_read}
use Rattle.col_load.specs.Rows.{HasDocuments}
use Rattle.col_load.specs.declared.load_error.LoadError.{LoadError}
use Rattle.col_load.specs.declared.load_error.LoadError.TheVariants.{OutOfMemory, BadLine, TooMany, Columnar}
use Rattle.col_model.specs.Table.{Table}
use Rattle.col_load_csv.specs.Columns.{columns_of}
use Rattle.col_load_csv.specs.Documents.{counts_behind, counts_of_csv_records, counts_of_records, counts_under, decided, documents_behind, documents_from, first_number, header_number, table_of_csv_documents, table_of_records, table_under, text_records}
use Rattle.col_load_csv.specs.Headed.{HasColumns, IsBadHeader, IsHeaderStop}
use Rattle.col_load_csv.specs.Read.{column_read}
use Rattle.col_load_csv.specs.Readers.{TextReader, Took, left_of}
use Rattle.col_load_csv.specs.Taking.{HasTaken}
use Rattle.col_load_csv.specs.declared.column.Column.{Column}
use Rattle.col_load_csv.specs.declared.take.Taken.{Taken}

-- want of memory adds nothing
memory-wanting : (a : SeenSink) (expected : Result Table Stop) → LoadsFile a a (Err OutOfMemory) expected
memory-wanting a expected = record {
  table = λ t is. record { file = []; stands = tt; added = tt; causes = inl refl };
  stop = λ s is. (refl, (OutOfMemory, refl, tt));
}

-- ---- records

-- a stop of the records
pub stop_loads : (a : SeenSink) (e : LoadError) (expected : Result (List Document) Stop) → IsStop e expected
    → LoadsFile a a (Err e) (table_of_read expected)
stop_loads a OutOfMemory expected is = memory-wanting a (table_of_read expected)
stop_loads a (BadLine n r) expected is =
    subst (λ x. LoadsFile a a (Err (BadLine n r)) (table_of_read x)) (sym is)
    (loads_none a a (Err (BadLine n r)) (bad_line n (refusal_read r)) refl (BadLine n r) refl refl)
stop_loads a TooMany expected is =
    subst (λ x. LoadsFile a a (Err TooMany) (table_of_read x)) (sym is) (loads_none a a (Err TooMany) too_many refl TooMany refl refl)
stop_loads a (Columnar e) expected is = absurd is

-- documents that were taken, and are written
pub taken_loads : (a b : SeenSink) (result : Result (Unit {0}) LoadError) (taken : Taken) (expected : Result (List Document) Stop)
    → HasTaken expected taken
    → ((docs : List Document) → HasDocuments docs taken.rows → LoadsFile a b result (table_of_documents docs))
    → LoadsFile a b result (table_of_read expected)
taken_loads a b result taken expected (docs, read, rows) writes =
    subst (λ x. LoadsFile a b result (table_of_read x)) (sym read) (writes docs rows)

-- ---- the first record

module _ (text : List ℕ) (old : TextReader) (all : left_of (length (strip_bom text) + 1) old ≡ text_records text) where
  module _ (forms : Forms) (new : TextReader) (names : List (List ℕ)) (took : Took old new names) where
    first-read : text_records text ≡ names ∷ left_of (length (strip_bom text)) new
    first-read = sym all ∙ took.left (length (strip_bom text))

    -- its columns were found
    pub header_found : (columns found : List Column) (most : ℕ) → most ≡ length (strip_bom text)
        → Ok (map column_read columns) ≡ columns_of forms names
        → map column_read found ≡ decided (map column_read columns) (left_of most new) → HasColumns forms text found
    header_found columns found most same named kinds = record {
      names = names;
      rows = left_of (length (strip_bom text)) new;
      columns = map column_read columns;
      records = first-read;
      named = sym named;
      kinds = kinds ∙ ap (λ n. decided (map column_read columns) (left_of n new)) same;
    }

module _ (forms : Forms) (skips : Bool) (text : List ℕ) where
  -- the columns are known
  table-headed : (found : List Column) → HasColumns forms text found
      → table_of_csv_documents forms skips text ≡ table_of_read (documents_behind (map column_read found) skips text)
  unfolding table_of_csv_documents
  table-headed found h =
      ap (table_of_records forms skips) h.records ∙ ap (table_under skips h.rows) h.named
      ∙ ap (λ columns. table_of_read (documents_from columns skips first_number h.rows)) (sym h.kinds)
      ∙ ap (λ rows. table_of_read (documents_from (map column_read found) skips first_number (drop 1 rows))) (sym h.records)

  -- there is no record
  table-empty : text_records text ≡ [] → table_of_csv_documents forms skips text ≡ table_of_documents []
  unfolding table_of_csv_documents
  table-empty none = ap (table_of_records forms skips) none

  -- what is written of such texts
  pub loads_headed : (a b : SeenSink) (result : Result (Unit {0}) LoadError) (found : List Column) → HasColumns forms text found
      → LoadsFile a b result (table_of_read (documents_behind (map column_read found) skips text))
      → LoadsFile a b result (table_of_csv_documents forms skips text)
  loads_headed a b result found has loads = subst (LoadsFile a b result) (sym (table-headed found has)) loads

  pub loads_empty : (a b : SeenSink) (result : Result (Unit {0}) LoadError) → text_records text ≡ []
      → LoadsFile a b result (table_of_documents []) → LoadsFile a b result (table_of_csv_documents forms skips text)
  loads_empty a b result none loads = subst (LoadsFile a b result) (sym (table-empty none)) loads

  table-refused : (n : ℕ) (r : refusals.Refusal) → n ≡ header_number → IsBadHeader forms text (refusal_read r)
      → table_of_csv_documents forms skips text ≡ Err (bad_line n (refusal_read r))
  unfolding table_of_csv_documents
  table-refused n r first bad =
      ap (table_of_records forms skips) bad.records ∙ ap (table_under skips bad.rows) bad.refused
      ∙ ap (λ k. Err (bad_line k (refusal_read r))) (sym first)

  -- it is refused
  pub header_stops : (a : SeenSink) (e : LoadError) → IsHeaderStop forms text e
      → LoadsFile a a (Err e) (table_of_csv_documents forms skips text)
  header_stops a OutOfMemory is = memory-wanting a (table_of_csv_documents forms skips text)
  header_stops a (BadLine n r) is =
      subst (LoadsFile a a (Err (BadLine n r))) (sym (table-refused n r is.0 is.1))
      (loads_none a a (Err (BadLine n r)) (bad_line n (refusal_read r)) refl (BadLine n r) refl refl)
  header_stops a TooMany is = absurd is
  header_stops a (Columnar e) is = absurd is

-- ---- counts

module _ (forms : Forms) (text : List ℕ) where
  -- the columns are known
  pub counts_headed : (found : List Column) → HasColumns forms text found
      → counts_behind (map column_read found) (drop 1 (text_records text)) ≡ counts_of_csv_records forms text
  unfolding counts_of_csv_records
  counts_headed found h =
      sym (ap (counts_of_records forms) h.records ∙ ap (counts_under h.rows) h.named
      ∙ ap (λ columns. counts_behind columns h.rows) (sym h.kinds)
      ∙ ap (λ rows. counts_behind (map column_read found) (drop 1 rows)) (sym h.records))

  -- there is no record
  pub counts_empty : text_records text ≡ [] → (0, 0) ≡ counts_of_csv_records forms text
  unfolding counts_of_csv_records
  counts_empty none = sym (ap (counts_of_records forms) none)
