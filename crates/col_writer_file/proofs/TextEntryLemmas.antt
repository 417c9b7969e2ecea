-- Columns of texts.
use Rattle.std.proofs.Common.{◌≡◌, ◌^◌, ℕ, List, [], ◌∷◌, length, map, Bool, false, Result, refl, sym, ap, ◌∙◌}
use Rattle.std.specs.Prelude.{filter_map, nat_le}
use Rattle.std.specs.List.{zip}
use Rattle.std.specs.Ordering.{nat_cmp}
use Rattle.std.specs.Cmp.Lexicographic.{slice_cmp}
use Rattle.col_common.specs.Outside.{SeenSink}
use Rattle.col_common.specs.declared.error.ColumnarError.{ColumnarError}
use Rattle.col_common.specs.Ascending.{are_below}
use Rattle.col_model.specs.Column.{term_cell}
use Rattle.col_model.specs.ColumnType.{ColumnType}
use Rattle.col_model.specs.Limits.{tightest, dictionary_length}
use Rattle.col_model.specs.Sorted.{distinct_items}
use Rattle.col_model.specs.Table.{text}
use Rattle.col_model.specs.Written.{text_of, texts_of}
use Rattle.col_writer_rows.specs.Counted.{SerializesColumn}
use Rattle.col_writer_rows.specs.Documents.{docs_of}
use Rattle.col_writer_rows.specs.Rows.{cell_rows}
use Rattle.col_writer_rows.specs.Terms.{AreTermIds, text_content}
use Rattle.col_terms.specs.Building.{ordered, is_too_long}
use Rattle.col_writer_columns.specs.Columns.{records_of, text_entry}
use Rattle.col_writer_columns.specs.Texts.{RecordedTexts, term_of, texts_by_id, ids_of, HaveTexts}
use Rattle.col_writer_columns.proofs.TextLemmas.{same_docs}
use Rattle.col_writer_columns.proofs.TermBytesLemmas.{same-terms}
use Rattle.col_writer_file.specs.OnRows.{cells_by_doc, content_on, is_past_terms}
use Rattle.col_writer_file.proofs.OnRowLemmas.{column-as}

-- the texts of records
pub texts-in : (t : ColumnType) (ps : List (ℕ × List ℕ)) → filter_map text_of (map (λ r. r.cell) (records_of t text ps)) ≡ map (λ p. p.1) ps
unfolding records_of
texts-in t [] = refl
texts-in t (p ∷ ps) = ap (λ r. p.1 ∷ r) (texts-in t ps)

-- texts of ids as cells
cells-in : (t : ColumnType) (terms : List (List ℕ)) (ps : List (ℕ × ℕ))
    → cells_by_doc (records_of t text (texts_by_id terms ps)) ≡ zip (docs_of ps) (map (term_cell terms) (ids_of ps))
unfolding records_of texts_by_id
cells-in t terms [] = refl
cells-in t terms (p ∷ ps) = ap (λ r. (p.0, text (term_of terms p.1)) ∷ r) (cells-in t terms ps)

-- the texts have the documents of their ids
pub docs-in-texts : (terms : List (List ℕ)) (ps : List (ℕ × ℕ)) (texts : List (ℕ × List ℕ))
    → HaveTexts terms ps texts → docs_of texts ≡ docs_of ps
docs-in-texts terms ps texts h = ap docs_of h.are ∙ same_docs terms ps

-- the dictionary is that of the distinct texts
pub too-long : (terms : List (List ℕ)) (ps : List (ℕ × ℕ)) (w : RecordedTexts) → HaveTexts terms ps w.values
    → is_too_long terms ≡ is_past_terms w
too-long terms ps w h =
    ap (λ r. nat_le (2 ^ 32) (dictionary_length r))
    (same-terms terms ps h.ids ∙ ap (λ r. distinct_items (slice_cmp nat_cmp) (map (λ p. p.1) r)) (sym h.are))

text-entry-content : (t : ColumnType) (terms : List (List ℕ)) (ps : List (ℕ × ℕ)) (w : RecordedTexts) (ds : List ℕ)
    → HaveTexts terms ps w.values
    → text_content w.sorts ds (docs_of ps) terms (ids_of ps) ≡ content_on (text_entry t w) ds
text-entry-content t terms ps w ds h =
    let cells = sym (ap (λ r. cells_by_doc (records_of t text r)) h.are ∙ cells-in t terms ps) in
    let found : ordered terms ≡ texts_of (map (λ r. r.cell) (records_of t text w.values)) =
    same-terms terms ps h.ids ∙ ap (distinct_items (slice_cmp nat_cmp)) (ap (map (λ p. p.1)) (sym h.are) ∙ sym (texts-in t w.values)) in
    λ i. record { cardinality = tightest (cell_rows w.sorts ds (cells i)); terms = found i; rows = cell_rows w.sorts ds (cells i) }

-- texts written by the ids of their terms are the column of their entry
pub texts-written : (old new : SeenSink) (result : Result (Unit {0}) ColumnarError) (t : ColumnType) (sorts : Bool)
    (ds docs ids : List ℕ) (terms : List (List ℕ)) (ps : List (ℕ × ℕ)) (w : RecordedTexts) → HaveTexts terms ps w.values
    → sorts ≡ w.sorts → docs ≡ docs_of ps → ids ≡ ids_of ps
    → SerializesColumn old new result t (length ds) (text_content sorts ds docs terms ids)
    → SerializesColumn old new result t (length ds) (content_on (text_entry t w) ds)
texts-written old new result t sorts ds docs ids terms ps w h same_flag same_docs same_ids written =
    column-as old new result t (length ds) (length ds) _ _ refl
    ((λ i. text_content (same_flag i) ds (same_docs i) terms (same_ids i)) ∙ text-entry-content t terms ps w ds h) written

-- the ids of a column whose dictionary isn't too long
pub term-ids : (terms : List (List ℕ)) (ids : List ℕ) (ps : List (ℕ × ℕ)) (w : RecordedTexts) → HaveTexts terms ps w.values
    → ids ≡ ids_of ps → is_past_terms w ≡ false → AreTermIds terms ids
term-ids terms ids ps w h same fits = record {
  known = ap (are_below (length terms)) same ∙ h.ids.known;
  differ = h.ids.differ;
  fits = too-long terms ps w h ∙ fits;
}
