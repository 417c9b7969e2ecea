-- What rows make of columns, column by column.
use Rattle.std.proofs.Common.{◌≡◌, ◌∙◌, ◌≤◌, ◌+◌, ◌==◌, ◌&&◌, ℕ, Bool, true, false, cond, List, [], ◌∷◌, ◌++◌, length, get_or, Some, None, refl, sym, ap, ap₂, subst, arith, append_assoc, append-nil}
use Rattle.std.specs.Prelude.{Option, option_map}
use Rattle.std.specs.List.{list_all, range_with_len, zip}
use Rattle.std.proofs.lemmas.Option.{same_Some}
use Rattle.col_common.specs.Reading.{◌>>=◌, only_if}
use Rattle.col_csv.specs.CsvTable.{cells_of_field, is_record_of, value_of_text}
use Rattle.col_csv.specs.Csv.{equals}
use Rattle.col_model.specs.ColumnType.{ColumnType}
use Rattle.col_model.specs.File.{for_each}
use Rattle.col_model.specs.Table.{Cell}
use Rattle.col_csv_import.specs.Columns.{FilledColumn, HasRoom, records_at, with_cells, with_field}
use Rattle.col_csv_import.specs.Rows.{with_fields, with_rows}
use Rattle.col_csv_import.proofs.RecordLemmas.{room-more, row_records}

-- ---- room

-- a field has at most one value
few-cells : (t : ColumnType) (s : List ℕ) (cells : List Cell) → cells_of_field t s ≡ Some cells → length cells ≤ 1
few-cells t [] cells e = subst (λ cs. length cs ≤ 1) (same_Some [] cells e) (omega arith)
few-cells t (mark ∷ s) cells e = by (value_of_text t s) (mark == equals) e
  where
    one : (c : Cell) (b : Bool) → only_if b (c ∷ []) ≡ Some cells → length cells ≤ 1
    one c true e = subst (λ cs. length cs ≤ 1) (same_Some (c ∷ []) cells e) (omega arith)
    one c false e = absurd (cc e)

    by : (o : Option Cell) (b : Bool) → (o >>= λ c. only_if b (c ∷ [])) ≡ Some cells → length cells ≤ 1
    by None b e = absurd (cc e)
    by (Some c) b e = one c b e

-- a column with a field of a row has room for the next row
pub field-room : (d : ℕ) (s : List ℕ) (c x : FilledColumn) → HasRoom d c → with_field d s c ≡ Some x → HasRoom (d + 1) x
field-room d s c x h e = by (cells_of_field c.key.column_type s) refl e
  where
    by : (o : Option (List Cell)) → cells_of_field c.key.column_type s ≡ o
        → option_map (λ cells. with_cells d cells c) o ≡ Some x → HasRoom (d + 1) x
    by None is e = absurd (cc e)
    by (Some cells) is e =
        subst (HasRoom (d + 1)) (same_Some (with_cells d cells c) x e) (room-more d c cells (few-cells c.key.column_type s cells is) h)

-- ---- columns

-- the cells of a field of each record
abbrev pub rows_at : List (List (List ℕ)) → ℕ → ColumnType → Option (List (List Cell))
rows_at rows i t = for_each (λ fields. cells_of_field t (get_or fields i [])) rows

-- a column with rows of cells from document d on
abbrev pub with_found : ℕ → FilledColumn → List (List Cell) → FilledColumn
with_found d c found = record { key = c.key; records = c.records ++ row_records c.key.column_type d found }

-- a column with its field of each record
abbrev pub column_rows : ℕ → List (List (List ℕ)) → ℕ → FilledColumn → Option FilledColumn
column_rows d rows i c = option_map (with_found d c) (rows_at rows i c.key.column_type)

-- each column with its field of each record
abbrev pub columns_rows : ℕ → List (List (List ℕ)) → ℕ → List FilledColumn → Option (List FilledColumn)
columns_rows d rows i [] = Some []
columns_rows d rows i (c ∷ cs) = column_rows d rows i c >>= λ x. columns_rows d rows (i + 1) cs >>= λ xs. Some (x ∷ xs)

-- one record, and then the others
column-more : (d i : ℕ) (fields : List (List ℕ)) (rows : List (List (List ℕ))) (c : FilledColumn)
    → (with_field d (get_or fields i []) c >>= column_rows (d + 1) rows i) ≡ column_rows d (fields ∷ rows) i c
column-more d i fields rows c = by (cells_of_field c.key.column_type (get_or fields i []))
  where
    joined : (cells : List Cell) (p : Option (List (List Cell)))
        → option_map (with_found (d + 1) (with_cells d cells c)) p ≡ option_map (with_found d c) (p >>= λ ys. Some (cells ∷ ys))
    joined cells None = refl
    joined cells (Some found) =
        ap (λ rs. Some (record { key = c.key; records = rs }))
        (append_assoc c.records (records_at c.key.column_type d cells) (row_records c.key.column_type (d + 1) found))

    by : (o : Option (List Cell))
        → (option_map (λ cells. with_cells d cells c) o >>= λ x. option_map (with_found (d + 1) x) (rows_at rows i x.key.column_type))
        ≡ option_map (with_found d c) (o >>= λ y. rows_at rows i c.key.column_type >>= λ ys. Some (y ∷ ys))
    by None = refl
    by (Some cells) = joined cells (rows_at rows i c.key.column_type)

-- two steps of each of a list are one step of each
two-steps : {X : Type 0} (o : Option X) (p : Option (List X)) (k : X → Option X) (rest whole : List X → Option (List X))
    → ((x : X) (xs : List X) → whole (x ∷ xs) ≡ (k x >>= λ y. rest xs >>= λ ys. Some (y ∷ ys)))
    → ((o >>= λ x. p >>= λ xs. Some (x ∷ xs)) >>= whole)
    ≡ ((o >>= k) >>= λ y. (p >>= rest) >>= λ ys. Some (y ∷ ys))
two-steps {X} None p k rest whole e = refl
two-steps {X} (Some x) None k rest whole e = by (k x)
  where
    by : (o : Option X) → None ≡ (o >>= λ y. ◌>>=◌ {A = List X} None (λ ys. Some (y ∷ ys)))
    by None = refl
    by (Some y) = refl
two-steps {X} (Some x) (Some xs) k rest whole e = e x xs

-- one record, and then the others, of each column
columns-more : (d i : ℕ) (fields : List (List ℕ)) (rows : List (List (List ℕ))) (cs : List FilledColumn)
    → (with_fields d fields i cs >>= columns_rows (d + 1) rows i) ≡ columns_rows d (fields ∷ rows) i cs
unfolding with_fields
columns-more d i fields rows [] = refl
columns-more d i fields rows (c ∷ cs) =
    two-steps (with_field d (get_or fields i []) c) (with_fields d fields (i + 1) cs) (column_rows (d + 1) rows i)
    (columns_rows (d + 1) rows (i + 1)) (columns_rows (d + 1) rows i) (λ x xs. refl)
    ∙ ap₂ (λ o p. o >>= λ y. p >>= λ ys. Some (y ∷ ys)) (column-more d i fields rows c) (columns-more d (i + 1) fields rows cs)

-- no record leaves the columns as they are
columns-none : (d i : ℕ) (cs : List FilledColumn) → columns_rows d [] i cs ≡ Some cs
columns-none d i [] = refl
columns-none d i (c ∷ cs) =
    let own : FilledColumn → Option (List FilledColumn) = λ x. columns_rows d [] (i + 1) cs >>= λ xs. Some (x ∷ xs) in
    let behind : Option (List FilledColumn) → Option (List FilledColumn) = λ p. p >>= λ xs. Some (c ∷ xs) in
    ap (λ rs. own (record { key = c.key; records = rs })) (append-nil c.records) ∙ ap behind (columns-none d (i + 1) cs)

-- the records are those of the rows from d on, each of so many fields
abbrev pub are_rows : ℕ → ℕ → List (List (List ℕ)) → Bool
are_rows count d rows = list_all (is_record_of count) (zip (range_with_len d (length rows)) rows)

-- what comes of nothing, and of a step that gives nothing
none-behind : {X Y : Type 0} (o : Option X) → ◌≡◌ {A = Option Y} (o >>= λ x. None) None
none-behind None = refl
none-behind (Some x) = refl

-- steps that agree behind a step
each : {X Y : Type 0} (o : Option X) (f g : X → Option Y) → ((x : X) → f x ≡ g x) → (o >>= f) ≡ (o >>= g)
each None f g e = refl
each (Some x) f g e = e x

-- what rows make of columns is what is made column by column, where the records are those of the rows
pub rows-by_columns : (count d : ℕ) (rows : List (List (List ℕ))) (cs : List FilledColumn)
    → with_rows count d rows cs ≡ cond (are_rows count d rows) (columns_rows d rows 1 cs) None
unfolding with_rows
rows-by_columns count d [] cs = sym (columns-none d 1 cs)
rows-by_columns count d (fields ∷ rows) cs =
    by (is_record_of count (d, fields)) (are_rows count (d + 1) rows) (rows-by_columns count (d + 1) rows)
  where
    by : (own later : Bool)
        → ((next : List FilledColumn) → with_rows count (d + 1) rows next ≡ cond later (columns_rows (d + 1) rows 1 next) None)
        → (cond own (with_fields d fields 1 cs) None >>= λ next. with_rows count (d + 1) rows next)
        ≡ cond (own && later) (columns_rows d (fields ∷ rows) 1 cs) None
    by false later more = refl
    by true false more =
        each (with_fields d fields 1 cs) (λ next. with_rows count (d + 1) rows next) (λ next. None) more
        ∙ none-behind (with_fields d fields 1 cs)
    by true true more =
        each (with_fields d fields 1 cs) (λ next. with_rows count (d + 1) rows next) (columns_rows (d + 1) rows 1) more
        ∙ columns-more d 1 fields rows cs
