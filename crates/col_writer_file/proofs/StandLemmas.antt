-- What a column that refuses nothing gives to the calls that write it.
use Rattle.std.proofs.Common.{◌≡◌, ◌^◌, ℕ, List, length, Bool, true, false, refl, sym, ap, ◌∙◌}
use Rattle.std.specs.Prelude.{nat_le, ◌||◌, ◌&&◌, ◌-◌, ◌==◌, not, count_by}
use Rattle.std.specs.Ordering.{nat_cmp}
use Rattle.std.specs.Cmp.Lexicographic.{slice_cmp}
use Rattle.std.proofs.lemmas.Option.{same_Some}
use Rattle.col_common.specs.Ascending.{are_below}
use Rattle.col_model.specs.Category.{Category}
use Rattle.col_model.specs.Category as categories
use Rattle.col_model.specs.ColumnType.{ColumnType}
use Rattle.col_model.specs.ColumnType as types
use Rattle.col_model.specs.Limits.{cell_count, is_multivalued, dictionary_length, has_many_codes, is_too_large}
use Rattle.col_model.specs.Sorted.{distinct_items}
use Rattle.col_model.specs.Table.{Cell, text, Content}
use Rattle.col_writer_rows.specs.Documents.{docs_of}
use Rattle.col_writer_columns.specs.Columns.{text_entry, plain_entry}
use Rattle.col_writer_columns.specs.Texts.{RecordedTexts}
use Rattle.col_writer_columns.specs.declared.plain_column_writer.PlainColumnWriter.{PlainColumnWriter}
use Rattle.col_types.specs.Cells.{unsigned_cell}
use Rattle.col_writer_file.specs.OnRows.{rows_on, content_on, CanStand, is_past_terms}
use Rattle.col_writer_file.proofs.OnRowLemmas.{stands}
use Rattle.col_writer_file.proofs.PlainLemmas.{docs-in-records}
use Rattle.col_writer_file.proofs.TextEntryLemmas.{texts-in}

last-two : (a b c d : Bool) → (a || b || c || d) ≡ false → (c ≡ false) × (d ≡ false)
last-two true b c d e = absurd (cc)
last-two false true c d e = absurd (cc)
last-two false false true d e = absurd (cc)
last-two false false false d e = (refl, e)

small-parts : (t : ColumnType) (c : Content) → is_too_large t c ≡ false
    → (nat_le (2 ^ 32) (dictionary_length c.terms) ≡ false) × (has_many_codes t c.rows ≡ false)
unfolding is_too_large
small-parts t c e =
    last-two (nat_le (2 ^ 32) (cell_count c.rows))
    (is_multivalued c.cardinality && nat_le (2 ^ 32 - 1) (count_by (λ row. not (length row == 0)) c.rows))
    (nat_le (2 ^ 32) (dictionary_length c.terms)) (has_many_codes t c.rows) e

-- the documents of texts that can stand in rows are below the number of rows
pub text-below : (k : Category) (t : ColumnType) (w : RecordedTexts) (ds : List ℕ) → CanStand k (text_entry t w) ds
    → are_below (length ds) (docs_of w.values) ≡ true
text-below k t w ds h = ap (are_below (length ds)) (sym (docs-in-records t text w.values)) ∙ h.below

-- the dictionary of texts that can stand in rows is counted by 32 bits
pub text-fits : (k : Category) (t : ColumnType) (w : RecordedTexts) (ds : List ℕ) → CanStand k (text_entry t w) ds → is_past_terms w ≡ false
text-fits k t w ds h =
    ap (λ xs. nat_le (2 ^ 32) (dictionary_length (distinct_items (slice_cmp nat_cmp) xs))) (sym (texts-in t w.values))
    ∙ (small-parts h.kind (content_on (text_entry t w) ds) (stands k (text_entry t w) ds h.kind h.is_kind).small).0

-- the documents of values that can stand in rows are below the number of rows
pub plain-below :
    {X : Type 0} (k : Category) (t : ColumnType) (cell : X → Cell) (w : PlainColumnWriter X) (ds : List ℕ)
    → CanStand k (plain_entry t cell w) ds → are_below (length ds) (docs_of w.column) ≡ true
plain-below k t cell w ds h = ap (are_below (length ds)) (sym (docs-in-records t cell w.column)) ∙ h.below

-- the codes of addresses that can stand in rows are counted by 32 bits
pub address-fits : (w : PlainColumnWriter ℕ) (ds : List ℕ)
    → CanStand categories.ip (plain_entry types.ip unsigned_cell w) ds
    → has_many_codes types.ip (rows_on (plain_entry types.ip unsigned_cell w) ds) ≡ false
address-fits w ds h =
    let s = stands categories.ip (plain_entry types.ip unsigned_cell w) ds h.kind h.is_kind in
    ap (λ t. has_many_codes t (rows_on (plain_entry types.ip unsigned_cell w) ds))
    (same_Some types.ip h.kind s.typed)
    ∙ (small-parts h.kind (content_on (plain_entry types.ip unsigned_cell w) ds) s.small).1
