-- The records of rows: their documents, the rows that are made of them, and room for more.
use Rattle.std.proofs.Common.{◌≡◌, ◌∙◌, ◌<◌, ◌≤◌, ◌+◌, ◌==◌, ℕ, Bool, true, false, cond, List, [], ◌∷◌, ◌++◌, map, filter, length, Some, None, refl, sym, ap, ap₂, arith, length-append, append_assoc, append-nil}
use Rattle.std.specs.Prelude.{nat_le, nat_lt, Option, unwrap_or, option_map}
use Rattle.std.specs.List.{last_or, list_all, list_any, range_with_len}
use Rattle.std.proofs.lemmas.Bool.{and_from, and_parts, eq-eqb, lt-ltb, lt-leb, ltb-true, ne_eqb, or_from}
use Rattle.std.proofs.lemmas.List.{length-map, map-append}
use Rattle.std.proofs.lemmas.List.Elements.{filter-append}
use Rattle.std.proofs.lemmas.List.Folds.{list_all-append, list_any-append}
use Rattle.col_model.specs.ColumnType.{ColumnType}
use Rattle.col_model.specs.Recording.{is_late}
use Rattle.col_model.specs.Table.{Cell}
use Rattle.col_model.specs.U64List.{joined_lists}
use Rattle.col_model.specs.Written.{Record, cells_of}
use Rattle.col_csv_import.specs.Columns.{FilledColumn, HasRoom, records_at, with_cells}

-- the records of the rows from document d on
abbrev pub row_records : ColumnType → ℕ → List (List Cell) → List Record
row_records t d [] = []
row_records t d (cells ∷ rows) = records_at t d cells ++ row_records t (d + 1) rows

-- the records are of documents before d
abbrev pub are_before : ℕ → List Record → Bool
are_before d rs = list_all (λ r. nat_lt r.doc d) rs

-- ---- documents

-- records of a document before d
at-before : (t : ColumnType) (d e : ℕ) (cells : List Cell) → e < d → are_before d (records_at t e cells) ≡ true
at-before t d e [] h = refl
at-before t d e (c ∷ cells) h = and_from _ _ (lt-ltb e d h) (at-before t d e cells h)

-- records before d are before each later document
pub before-more : (d e : ℕ) (rs : List Record) → d ≤ e → are_before d rs ≡ true → are_before e rs ≡ true
before-more d e [] h p = refl
before-more d e (r ∷ rs) h p =
    let parts = and_parts _ _ p in
    let own = ltb-true r.doc d parts.0 in
    and_from _ _ (lt-ltb r.doc e (omega arith)) (before-more d e rs h parts.1)

-- no row behind the last document has a record
pub none-past : (t : ColumnType) (d n : ℕ) (rows : List (List Cell)) → d + length rows ≤ n
    → list_any (λ r. nat_le n r.doc) (row_records t d rows) ≡ false
none-past t d n [] h = refl
none-past t d n (cells ∷ rows) h =
    list_any-append _ (records_at t d cells) (row_records t (d + 1) rows)
    ∙ or_from _ _ (own cells) (none-past t (d + 1) n rows (omega arith))
  where
    own : (cells : List Cell) → list_any (λ r. nat_le n r.doc) (records_at t d cells) ≡ false
    own [] = refl
    own (c ∷ cells) = or_from _ _ (lt-leb n d (omega arith)) (own cells)

-- ---- rows

-- records before a document are none of its own
none-own : (d : ℕ) (rs : List Record) → are_before d rs ≡ true → filter (λ r. r.doc == d) rs ≡ []
none-own d [] p = refl
none-own d (r ∷ rs) p =
    let parts = and_parts _ _ p in
    let own = ltb-true r.doc d parts.0 in
    ap (λ b. cond b (r ∷ filter (λ r. r.doc == d) rs) (filter (λ r. r.doc == d) rs)) (ne_eqb r.doc d (λ e. absurd (omega arith)))
    ∙ none-own d rs parts.1

-- records of later documents neither
none-later : (t : ColumnType) (d e : ℕ) (rows : List (List Cell)) → d < e → filter (λ r. r.doc == d) (row_records t e rows) ≡ []
none-later t d e [] h = refl
none-later t d e (cells ∷ rows) h =
    filter-append (λ r. r.doc == d) (records_at t e cells) (row_records t (e + 1) rows)
    ∙ ap₂ (λ xs ys. xs ++ ys) (own cells) (none-later t d (e + 1) rows (omega arith))
  where
    own : (cells : List Cell) → filter (λ r. r.doc == d) (records_at t e cells) ≡ []
    own [] = refl
    own (c ∷ cells) =
        ap (λ b. cond b (record { doc = e; recorded_type = t; cell = c } ∷ filter (λ r. r.doc == d) (records_at t e cells))
        (filter (λ r. r.doc == d) (records_at t e cells))) (ne_eqb e d (λ q. absurd (omega arith)))
        ∙ own cells

-- the records of a document are all its own
all-own : (t : ColumnType) (d : ℕ) (cells : List Cell) → map (λ r. r.cell) (filter (λ r. r.doc == d) (records_at t d cells)) ≡ cells
all-own t d [] = refl
all-own t d (c ∷ cells) =
    ap (λ b. map (λ r. r.cell)
    (cond b (record { doc = d; recorded_type = t; cell = c } ∷ filter (λ r. r.doc == d) (records_at t d cells))
    (filter (λ r. r.doc == d) (records_at t d cells)))) (eq-eqb d d refl)
    ∙ ap (λ cs. c ∷ cs) (all-own t d cells)

-- the cells of a document are those of its row
own-cells : (front : List Record) (t : ColumnType) (d : ℕ) (cells : List Cell) (rows : List (List Cell)) → are_before d front ≡ true
    → cells_of (front ++ row_records t d (cells ∷ rows)) d ≡ cells
own-cells front t d cells rows p =
    let own = λ (r : Record). r.doc == d in
    ap (map (λ r. r.cell)) (
    filter-append own front (row_records t d (cells ∷ rows))
    ∙ ap₂ (λ xs ys. xs ++ ys) (none-own d front p)
    (filter-append own (records_at t d cells) (row_records t (d + 1) rows)
    ∙ ap (λ ys. filter own (records_at t d cells) ++ ys) (none-later t d (d + 1) rows (omega arith))
    ∙ append-nil (filter own (records_at t d cells))))
    ∙ all-own t d cells

-- the rows are those that the records are made of
pub rows-back : (front : List Record) (t : ColumnType) (d : ℕ) (rows : List (List Cell)) → are_before d front ≡ true
    → map (cells_of (front ++ row_records t d rows)) (range_with_len d (length rows)) ≡ rows
rows-back front t d [] p = refl
rows-back front t d (cells ∷ rows) p =
    ap₂ (λ x xs. x ∷ xs) (own-cells front t d cells rows p)
    (ap (λ rs. map (cells_of rs) (range_with_len (d + 1) (length rows)))
    (sym (append_assoc front (records_at t d cells) (row_records t (d + 1) rows)))
    ∙ rows-back (front ++ records_at t d cells) t (d + 1) rows
    (list_all-append (λ r. nat_lt r.doc (d + 1)) front (records_at t d cells)
    ∙ and_from _ _ (before-more d (d + 1) front (omega arith) p) (at-before t (d + 1) d cells (omega arith))))

-- the cells are those of the rows, one behind another
pub cells-back : (t : ColumnType) (d : ℕ) (rows : List (List Cell)) → map (λ r. r.cell) (row_records t d rows) ≡ joined_lists rows
cells-back t d [] = refl
cells-back t d (cells ∷ rows) =
    map-append (λ r. r.cell) (records_at t d cells) (row_records t (d + 1) rows)
    ∙ ap₂ (λ xs ys. xs ++ ys) (own cells) (cells-back t (d + 1) rows)
  where
    own : (cells : List Cell) → map (λ r. r.cell) (records_at t d cells) ≡ cells
    own [] = refl
    own (c ∷ cells) = ap (λ cs. c ∷ cs) (own cells)

-- ---- room

-- records before d aren't behind it
pub not-late : (d : ℕ) (rs : List Record) → are_before d rs ≡ true → is_late rs d ≡ false
not-late d rs p = from None rs refl p
  where
    from : (o : Option Record) (rs : List Record) → unwrap_or (option_map (λ r. nat_lt d r.doc) o) false ≡ false
        → are_before d rs ≡ true → unwrap_or (option_map (λ r. nat_lt d r.doc) (last_or o rs)) false ≡ false
    from o [] e p = e
    from o (r ∷ rs) e p =
        let parts = and_parts _ _ p in
        let own = ltb-true r.doc d parts.0 in
        from (Some r) rs (grind arith) parts.1

-- a column has room behind a document of which it has at most one more record
pub room-more : (d : ℕ) (c : FilledColumn) (cells : List Cell) → length cells ≤ 1 → HasRoom d c → HasRoom (d + 1) (with_cells d cells c)
room-more d c cells few h = record {
  before =
      list_all-append (λ r. nat_lt r.doc (d + 1)) c.records (records_at c.key.column_type d cells)
      ∙ and_from _ _ (before-more d (d + 1) c.records (omega arith) h.before)
      (at-before c.key.column_type (d + 1) d cells (omega arith));
  few = omega (
    arith,
    h.few,
    length-append c.records (records_at c.key.column_type d cells),
    length-map {B = Record} cells (λ cell. record { doc = d; recorded_type = c.key.column_type; cell = cell }),
  );
}
