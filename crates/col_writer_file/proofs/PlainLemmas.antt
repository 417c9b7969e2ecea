-- Columns of bools, of points in time and of addresses.
use Rattle.std.proofs.Common.{◌≡◌, ◌<◌, ◌^◌, ℕ, List, [], ◌∷◌, length, map, Bool, true, false, Result, refl, sym, ap, ◌∙◌, subst, arith}
use Rattle.std.specs.Prelude.{nat_le, IfOk}
use Rattle.std.specs.List.{zip, list_all}
use Rattle.col_common.specs.Outside.{SeenSink}
use Rattle.col_common.specs.declared.error.ColumnarError.{ColumnarError}
use Rattle.col_model.specs.AddressList.{least_codes}
use Rattle.col_model.specs.Column.{number_cell, is_stored}
use Rattle.col_model.specs.ColumnType.{ColumnType}
use Rattle.col_model.specs.ColumnType as types
use Rattle.col_model.specs.Limits.{has_many_codes}
use Rattle.col_model.specs.Table.{Cell}
use Rattle.col_model.specs.U64List.{joined_lists}
use Rattle.col_column.specs.Written.{Stores64}
use Rattle.col_writer_rows.specs.Counted.{SerializesColumn}
use Rattle.col_writer_rows.specs.Documents.{docs_of}
use Rattle.col_writer_rows.specs.Rows.{picked_rows, cell_rows, number_cells, number_content}
use Rattle.col_writer_rows.proofs.LimitLemmas.{codes-needed}
use Rattle.col_writer_columns.specs.Columns.{records_of, plain_entry}
use Rattle.col_writer_columns.specs.declared.plain_column_writer.PlainColumnWriter.{PlainColumnWriter}
use Rattle.col_types.specs.Cells.{unsigned_cell}
use Rattle.col_values.specs.Codes.{bool_code}
use Rattle.std.proofs.lemmas.List.{map-id}
use Rattle.col_writer_file.specs.OnRows.{rows_on, content_on}
use Rattle.col_writer_file.proofs.OnRowLemmas.{by-doc, column-as}
use Rattle.col_writer_file.proofs.NumberLemmas.{number-entry}

-- the documents of records
pub docs-in-records : {X : Type 0} (t : ColumnType) (cell : X → Cell) (ps : List (ℕ × X))
    → map (λ r. r.doc) (records_of t cell ps) ≡ docs_of ps
unfolding records_of
docs-in-records t cell [] = refl
docs-in-records t cell (p ∷ ps) = ap (λ r. p.0 ∷ r) (docs-in-records t cell ps)

-- their cells, where each is the number of a code
pub cells-in-records : {X : Type 0} (t : ColumnType) (cell : X → Cell) (code : X → ℕ) (ps : List (ℕ × X))
    → ((x : X) → cell x ≡ number_cell t (code x))
    → map (λ r. r.cell) (records_of t cell ps) ≡ map (number_cell t) (map code (map (λ p. p.1) ps))
unfolding records_of
cells-in-records t cell code [] h = refl
cells-in-records t cell code (p ∷ ps) h = λ i. h p.1 i ∷ cells-in-records t cell code ps h i

-- a column whose values are stored as numbers
pub plain-written : {X : Type 0} (old new : SeenSink) (result : Result (Unit {0}) ColumnarError) (t : ColumnType)
    (cell : X → Cell) (code : X → ℕ) (ds docs numbers : List ℕ) (w : PlainColumnWriter X)
    → ((x : X) → cell x ≡ number_cell t (code x)) → docs ≡ docs_of w.column
    → numbers ≡ map code (map (λ p. p.1) w.column)
    → SerializesColumn old new result t (length ds) (number_content t ds docs numbers)
    → SerializesColumn old new result t (length ds) (content_on (plain_entry t cell w) ds)
plain-written old new result t cell code ds docs numbers w h same_docs same written =
    column-as old new result t (length ds) (length ds) _ _ refl
    (number-entry (plain_entry t cell w) t ds docs numbers refl refl (docs-in-records t cell w.column ∙ sym same_docs)
    (cells-in-records t cell code w.column h ∙ ap (map (number_cell t)) (sym same))) written

-- the codes of bools are stored
pub stores-bools : (bs : List Bool) (xs : List ℕ) → xs ≡ map bool_code bs → Stores64 types.bool xs
stores-bools bs xs e = record { list = λ bytes. refl; images = ap (list_all (is_stored types.bool)) e ∙ each bs }
  where
    each : (bs : List Bool) → list_all (is_stored types.bool) (map bool_code bs) ≡ true
    each [] = refl
    each (true ∷ bs) = each bs
    each (false ∷ bs) = each bs

all-times : (xs : List ℕ) → list_all (is_stored types.datetime) xs ≡ true
all-times [] = refl
all-times (x ∷ xs) = all-times xs

-- points in time are stored as any numbers of 64 bits
pub stores-times : (xs : List ℕ) → Stores64 types.datetime xs
stores-times xs = record { list = λ bytes. refl; images = all-times xs }

-- numbers are the images of themselves
pub same-numbers : (xs : List ℕ) → xs ≡ map (λ x. x) xs
same-numbers xs = sym (map-id xs)

-- ---- addresses

-- the rows of addresses
address-rows : (ds docs numbers : List ℕ) (w : PlainColumnWriter ℕ) → docs ≡ docs_of w.column
    → numbers ≡ map (λ p. p.1) w.column
    → rows_on (plain_entry types.ip unsigned_cell w) ds ≡ cell_rows false ds (number_cells types.ip docs numbers)
address-rows ds docs numbers w same_docs same =
    ap (cell_rows false ds) (by-doc (records_of types.ip unsigned_cell w.column)
    ∙ (λ i. zip ((docs-in-records types.ip unsigned_cell w.column ∙ sym same_docs) i)
    ((cells-in-records types.ip unsigned_cell (λ x. x) w.column (λ x. refl)
    ∙ ap (map (number_cell types.ip)) (sym (same ∙ same-numbers (map (λ p. p.1) w.column)))) i)))

-- rows of addresses have too many codes where the numbers of the picked rows do
pub codes-of-rows : (ds docs numbers : List ℕ) (w : PlainColumnWriter ℕ) → docs ≡ docs_of w.column
    → numbers ≡ map (λ p. p.1) w.column
    → has_many_codes types.ip (rows_on (plain_entry types.ip unsigned_cell w) ds)
    ≡ nat_le (2 ^ 32) (least_codes (joined_lists (picked_rows ds (zip docs numbers))))
codes-of-rows ds docs numbers w same_docs same =
    ap (has_many_codes types.ip) (address-rows ds docs numbers w same_docs same) ∙ codes-needed ds docs numbers

-- an answer that tells a fact tells an equal one
pub codes-told : {E : Type 0} (result : Result Bool E) (a b : Bool) → a ≡ b → IfOk result (λ x. x ≡ b) → IfOk result (λ x. x ≡ a)
codes-told result a b e h = subst (λ y. IfOk result (λ x. x ≡ y)) (sym e) h
