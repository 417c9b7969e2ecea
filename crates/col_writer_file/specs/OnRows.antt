-- What is written of an entry, by the document of each row.
use Rattle.std.specs.Prelude.{◌≡◌, ℕ, ◌<◌, ◌^◌, ℤ, pos, ◌+ℤ◌, nat_le, Bool, true, List, [], ◌∷◌, map, length, slice_index, Option, Some, None, Result, Ok}
use Rattle.std.specs.List.{range_with_len}
use Rattle.std.specs.Ordering.{nat_cmp}
use Rattle.std.specs.Cmp.Lexicographic.{slice_cmp}
use Rattle.col_common.specs.Outside.{SeenSink}
use Rattle.col_common.specs.declared.error.ColumnarError.{ColumnarError}
use Rattle.col_common.specs.Ascending.{are_below}
use Rattle.col_model.specs.Category.{Category}
use Rattle.col_model.specs.ColumnType.{ColumnType}
use Rattle.col_model.specs.Limits.{tightest, dictionary_length, is_too_large}
use Rattle.col_model.specs.Refusal.{Refusal, ◌>>=◌, refuse_if, or_refuse, numerical_conflict, tie_breaker_start, too_large}
use Rattle.col_model.specs.Sorted.{distinct_items}
use Rattle.col_model.specs.Table.{Cell, number, Content}
use Rattle.col_model.specs.Written.{Record, Entry, texts_of, entry_type, is_past_ties}
use Rattle.col_writer_rows.specs.Counted.{SerializesColumn}
use Rattle.col_writer_rows.specs.Rows.{cell_rows}
use Rattle.col_writer_columns.specs.Texts.{RecordedTexts}

-- each number fits 64 bits
abbrev pub Fit64 : List ℕ → Type 0
Fit64 xs = (k : ℕ) → slice_index xs k < 2 ^ 64

-- the cells of records, each beside its document
abbrev pub cells_by_doc : List Record → List (ℕ × Cell)
cells_by_doc records = map (λ r. (r.doc, r.cell)) records

-- the documents of the records
abbrev pub recorded_docs : Entry → List ℕ
recorded_docs e = map (λ r. r.doc) e.records

-- the rows: the cells of the documents that stand there, or the numbers from a tie start on
abbrev pub rows_on : Entry → List ℕ → List (List Cell)
rows_on e row_docs = rows e.tie_start
  where
    rows : Option ℤ → List (List Cell)
    rows (Some start) =
        map (λ r. number (start +ℤ pos r) ∷ []) (range_with_len 0 (length row_docs))
    rows None = cell_rows e.sorts row_docs (cells_by_doc e.records)

-- what stands in the column
abbrev pub content_on : Entry → List ℕ → Content
content_on e row_docs =
    let rows = rows_on e row_docs in
    record {
      cardinality = tightest rows;
      terms = texts_of (map (λ r. r.cell) e.records);
      rows = rows;
    }

-- The type of the column, or its first refusal.
abbrev pub type_on : Category → Entry → List ℕ → Result ColumnType Refusal
type_on c e row_docs = do
  t ← or_refuse (entry_type c e) numerical_conflict
  _ ← refuse_if (is_past_ties (length row_docs) e.tie_start) tie_breaker_start
  _ ← refuse_if (is_too_large t (content_on e row_docs)) too_large
  Ok t

-- the column refuses nothing, and each document has a row
pub record CanStand (c : Category) (e : Entry) (row_docs : List ℕ) : Type 0 where
  pub below : are_below (length row_docs) (recorded_docs e) ≡ true
  pub kind : ColumnType
  pub is_kind : type_on c e row_docs ≡ Ok kind

-- Ok added bytes that stand for the column of the entry; a refusal has a cause.
abbrev pub WritesOn : SeenSink → SeenSink → Result (Unit {0}) ColumnarError
    → Category → Entry → List ℕ → Type 0
WritesOn old new result c e row_docs = (t : ColumnType) → entry_type c e ≡ Some t
    → SerializesColumn old new result t (length row_docs) (content_on e row_docs)

-- 32 bits don't count the bytes of the dictionary of texts
abbrev pub is_past_terms : RecordedTexts → Bool
is_past_terms w = nat_le (2 ^ 32)
    (dictionary_length (distinct_items (slice_cmp nat_cmp) (map (λ p. p.1) w.values)))
