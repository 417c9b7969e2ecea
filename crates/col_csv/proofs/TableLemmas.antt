-- What the table of records says of them.
use Rattle.std.proofs.Common.{◌≡◌, ℕ, ◌+◌, ◌==◌, nat_le, Bool, true, false, List, [], ◌∷◌, map, length, get_or, Some, refl, sym, ap, ap₂, subst}
use Rattle.std.specs.Prelude.{⊤, if◌then◌else◌}
use Rattle.std.specs.List.{list_all, range_with_len, zip, AllByRecursion, AllZip}
use Rattle.std.proofs.lemmas.Bool.{and_from, le-leb}
use Rattle.std.proofs.lemmas.Option.{none-some, same_Some}
use Rattle.col_common.specs.Reading.{◌>>=◌, only_if}
use Rattle.col_model.specs.ColumnType.{ColumnType}
use Rattle.col_model.specs.File.{for_each}
use Rattle.col_model.specs.Keys.{Key}
use Rattle.col_model.specs.Limits.{is_multivalued, tightest}
use Rattle.col_model.specs.Sound.{key_of_column}
use Rattle.col_model.specs.Table.{Cell, full, optional, multivalued, Column, Table}
use Rattle.col_model.proofs.DecodedNumbers.{if-of, step-of}
use Rattle.col_csv.specs.Csv.{IsFlatColumn}
use Rattle.col_csv.specs.CsvTable.{cells_of_field, column_of_fields, flat_content, is_record_of, keys_of_header, numbered, placed, table_of_records}
use Rattle.col_csv.proofs.FieldLemmas.{AreCellsOf, cells-are, field-few}
use Rattle.col_csv.proofs.HeaderLemmas.{IsHeaderOf, header-is}
use Rattle.col_csv.proofs.ListLemmas.{each-some}

-- rows of at most one cell aren't Multivalued
few-rows : (rows : List (List Cell)) → list_all (λ row. nat_le (length row) 1) rows ≡ true → is_multivalued (tightest rows) ≡ false
few-rows rows e = by (list_all (λ row. length row == 1) rows)
  where
    by : (a : Bool)
        → is_multivalued (if a then full else if list_all (λ (row : List Cell). nat_le (length row) 1) rows then optional else multivalued)
        ≡ false
    by true = refl
    by false = ap (λ b. is_multivalued (if b then optional else multivalued)) e

module _ (rows : List (List (List ℕ))) where
  -- a column whose fields stand at a place of the records
  pub record StandsAt (a : ℕ) (c : Column) : Type 0 where
    pub flat : IsFlatColumn c
    pub cells : AllZip (λ fields cells. AreCellsOf c.column_type (get_or fields a []) cells) rows c.content.rows

  -- columns whose fields stand side by side from a place on
  abbrev pub StandFrom : ℕ → List Column → Type 0
  StandFrom a [] = ⊤
  StandFrom a (c ∷ cs) = StandsAt a c × StandFrom (a + 1) cs

  -- the cells of a column, with at most one in a row
  cells-found : (a : ℕ) (t : ColumnType) (rs : List (List (List ℕ))) (found : List (List Cell))
      → AllZip (λ fields cells. cells_of_field t (get_or fields a []) ≡ Some cells) rs found
      → AllZip (λ fields cells. AreCellsOf t (get_or fields a []) cells) rs found
      × (list_all (λ row. nat_le (length row) 1) found ≡ true)
  cells-found a t [] [] h = (tt, refl)
  cells-found a t [] (cells ∷ found) h = absurd h
  cells-found a t (fields ∷ rs) [] h = absurd h
  cells-found a t (fields ∷ rs) (cells ∷ found) h =
      let one = cells-are t (get_or fields a []) cells h.0 in
      let later = cells-found a t rs found h.1 in
      ((one, later.0), and_from _ _ (le-leb (length cells) 1 (field-few t (get_or fields a []) cells one)) later.1)

  -- a column that the records give stands at its place
  column-is : (a : ℕ) (k : Key) (c : Column) → column_of_fields rows (a, k) ≡ Some c → (key_of_column c ≡ k) × StandsAt a c
  column-is a k c e =
      let made : List (List Cell) → Column =
      λ found. record { name = k.name; column_type = k.column_type; content = flat_content found } in
      let step = step-of (for_each (λ fields. cells_of_field k.column_type (get_or fields a [])) rows) (λ found. Some (made found)) c e in
      let all = cells-found a k.column_type rows step.x
      (each-some (λ fields. cells_of_field k.column_type (get_or fields a [])) rows step.x step.first) in
      subst (λ c. (key_of_column c ≡ k) × StandsAt a c) (same_Some (made step.x) c step.rest) (
        refl,
        record { flat = record { few = few-rows step.x all.1; cardinality = refl; terms = refl }; cells = all.0 },
      )

  -- the columns stand side by side, under the keys
  columns-are : (a : ℕ) (keys : List Key) (cs : List Column)
      → AllZip (λ p c. column_of_fields rows p ≡ Some c) (zip (range_with_len a (length keys)) keys) cs
      → (map key_of_column cs ≡ keys) × StandFrom a cs
  columns-are a [] [] h = (refl, tt)
  columns-are a [] (c ∷ cs) h = absurd h
  columns-are a (k ∷ keys) [] h = absurd h
  columns-are a (k ∷ keys) (c ∷ cs) h =
      let one = column-is a k c h.0 in
      let later = columns-are (a + 1) keys cs h.1 in
      (ap₂ (λ (k : Key) ks. k ∷ ks) one.0 later.0, (one.1, later.1))

-- a table as its records spell it
pub record IsTableOf (header : List (List ℕ)) (rows : List (List (List ℕ))) (t : Table) : Type 0 where
  pub header_is : IsHeaderOf header (map key_of_column t.columns)
  pub columns : StandFrom rows 1 t.columns
  pub row_count : length rows ≡ t.row_count
  pub numbers : list_all (is_record_of (length header)) (numbered rows) ≡ true

-- a table that records give is spelled by them
pub table-is : (header : List (List ℕ)) (rows : List (List (List ℕ))) (t : Table) → table_of_records (header ∷ rows) ≡ Some t
    → IsTableOf header rows t
table-is header rows t e =
    let made : List Column → Table = λ cs. record { row_count = length rows; columns = cs } in
    let test = list_all (is_record_of (length header)) (numbered rows) in
    let a = step-of (keys_of_header header) (λ keys. for_each (column_of_fields rows) (placed keys) >>= λ cs. only_if test (made cs)) t e in
    let b = step-of (for_each (column_of_fields rows) (placed a.x)) (λ cs. only_if test (made cs)) t a.rest in
    let tested = if-of test (made b.x) t b.rest in
    let are = columns-are rows 1 a.x b.x (each-some (column_of_fields rows) (placed a.x) b.x b.first) in
    subst (IsTableOf header rows) tested.1 (record {
      header_is = subst (IsHeaderOf header) (sym are.0) (header-is header a.x a.first);
      columns = are.1;
      row_count = refl;
      numbers = tested.0;
    })

-- there is a first record
pub record HasTable (rs : List (List (List ℕ))) (t : Table) : Type 0 where
  pub header : List (List ℕ)
  pub rows : List (List (List ℕ))
  pub are : rs ≡ header ∷ rows
  pub is : IsTableOf header rows t

-- records that give a table have a first one
pub has-table : (rs : List (List (List ℕ))) (t : Table) → table_of_records rs ≡ Some t → HasTable rs t
has-table [] t e = absurd (none-some t e)
has-table (header ∷ rows) t e = record { header = header; rows = rows; are = refl; is = table-is header rows t e }

-- columns whose fields stand side by side are flat
pub stand-flat : (rows : List (List (List ℕ))) (a : ℕ) (cs : List Column) → StandFrom rows a cs → AllByRecursion IsFlatColumn cs
stand-flat rows a [] all = tt
stand-flat rows a (c ∷ cs) all = (all.0.flat, stand-flat rows (a + 1) cs all.1)
