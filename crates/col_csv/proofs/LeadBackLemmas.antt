-- The text of a flat and sound table leads back to the table.
use Rattle.std.proofs.Common.{◌≡◌, ℕ, zero, suc, ◌+◌, ◌≤◌, ◌==◌, nat_le, true, false, List, [], ◌∷◌, map, length, drop, get_or, Some, refl, sym, ◌∙◌, ap, arith}
use Rattle.std.specs.Prelude.{Option, decimal}
use Rattle.std.specs.List.{list_all, range_with_len, zip, AllByRecursion}
use Rattle.std.proofs.lemmas.Bool.{and_parts, and_from, eq-eqb, eqb-true, leb-true, le-leb, true≢false}
use Rattle.std.proofs.lemmas.List.{length-map}
use Rattle.std.proofs.lemmas.List.FromFn.{length-range_with_len}
use Rattle.std.proofs.lemmas.Option.{unwrap_or-slice_get}
use Rattle.csv.specs.Reading.{default_config, records}
use Rattle.col_common.specs.Reading.{◌>>=◌, only_if}
use Rattle.col_model.specs.ColumnType.{ColumnType}
use Rattle.col_model.specs.File.{for_each}
use Rattle.col_model.specs.Limits.{is_multivalued, is_of_type}
use Rattle.col_model.specs.Lookup.{row_of}
use Rattle.col_model.specs.Sound.{key_of_column, has_bytes, is_row_of, IsSoundColumn, IsSound}
use Rattle.col_model.specs.Table.{Cell, Cardinality, full, optional, multivalued, Column, Table}
use Rattle.col_model.proofs.OrderingLaws.{bytes_eq-same}
use Rattle.col_model.proofs.SoundTables.{rows-bytes, sound-named}
use Rattle.col_csv.specs.Csv.{csv_of, field_of, header_fields, heading, IsFlat, IsFlatColumn, records_of, row_fields, row_records}
use Rattle.col_csv.specs.CsvTable.{cells_of_field, column_of_fields, flat_content, is_record_of, numbered, placed, table_of_csv, table_of_records, TextsLeadBack}
use Rattle.col_csv.proofs.FieldLemmas.{field-again}
use Rattle.col_csv.proofs.HeaderLemmas.{keys-again, sound-keys}
use Rattle.col_csv.proofs.ListLemmas.{drop-step, some-more}
use Rattle.col_csv.proofs.ReadBackLemmas.{reads-back}
use Rattle.col_csv.proofs.TurnLemmas.{records-found}

-- ---- the rows of a column

-- rows of at most one cell, of the type, with texts of bytes
record IsRow (t : ColumnType) (row : List Cell) : Type 0 where
  few : length row ≤ 1
  of_type : list_all (is_of_type t) row ≡ true
  bytes : list_all has_bytes row ≡ true

-- three tests of all rows
are-rows : (t : ColumnType) (rows : List (List Cell)) → list_all (λ row. nat_le (length row) 1) rows ≡ true
    → list_all (list_all (is_of_type t)) rows ≡ true → list_all (list_all has_bytes) rows ≡ true → AllByRecursion (IsRow t) rows
are-rows t [] e f g = tt
are-rows t (row ∷ rows) e f g =
    let a = and_parts (nat_le (length row) 1) (list_all (λ row. nat_le (length row) 1) rows) e in
    let b = and_parts (list_all (is_of_type t) row) (list_all (list_all (is_of_type t)) rows) f in
    let c = and_parts (list_all has_bytes row) (list_all (list_all has_bytes) rows) g in
    (record { few = leb-true (length row) 1 a.0; of_type = b.0; bytes = c.0 }, are-rows t rows a.1 b.1 c.1)

-- rows of a cardinality that isn't Multivalued have at most one cell
rows-few : (k : Cardinality) (rows : List (List Cell)) → is_multivalued k ≡ false → list_all (is_row_of k) rows ≡ true
    → list_all (λ row. nat_le (length row) 1) rows ≡ true
rows-few k [] e h = refl
rows-few full (row ∷ rows) e h =
    let parts = and_parts (length row == 1) (list_all (is_row_of full) rows) h in
    let one = eqb-true (length row) 1 parts.0 in
    and_from _ _ (le-leb (length row) 1 (omega (arith, one))) (rows-few full rows e parts.1)
rows-few optional (row ∷ rows) e h = h
rows-few multivalued (row ∷ rows) e h = absurd (true≢false e)

-- a column whose text says all of it
pub record IsWhole (n : ℕ) (c : Column) : Type 0 where
  pub flat : IsFlatColumn c
  pub sound : IsSoundColumn n c

-- the rows of such a column
whole-rows : (n : ℕ) (c : Column) → IsWhole n c → AllByRecursion (IsRow c.column_type) c.content.rows
whole-rows n c w =
    are-rows c.column_type c.content.rows (rows-few c.content.cardinality c.content.rows w.flat.few w.sound.cardinality)
    w.sound.cells (rows-bytes c.content.terms c.content.rows w.sound.bytes w.sound.among)

module _ (all : List Column) (n : ℕ) where
  -- the field of a column in the record of a row
  abbrev field_at : ℕ → Column → List ℕ
  field_at d c = field_of c.column_type (row_of c.content d)

  -- the columns from a place on have the fields from there on
  abbrev StandAt : ℕ → List Column → Type 0
  StandAt a cs = (d : ℕ) → drop a (row_fields all d) ≡ map (field_at d) cs

  -- the cells that the fields at a place stand for, from a row on
  rows-again : (a : ℕ) (c : Column) → ((d : ℕ) → get_or (row_fields all d) a [] ≡ field_at d c) → (k : ℕ) (rest : List (List Cell))
      → drop k c.content.rows ≡ rest → AllByRecursion (IsRow c.column_type) rest
      → for_each (λ fields. cells_of_field c.column_type (get_or fields a [])) (map (row_fields all) (range_with_len k (length rest)))
      ≡ Some rest
  rows-again a c at k [] e are = refl
  rows-again a c at k (row ∷ rest) e are =
      let step = drop-step k c.content.rows row rest [] e in
      let own : row_of c.content k ≡ row = unwrap_or-slice_get c.content.rows k [] ∙ step.0 in
      some-more (λ fields. cells_of_field c.column_type (get_or fields a [])) (row_fields all k) row
      (map (row_fields all) (range_with_len (k + 1) (length rest))) rest
      (ap (cells_of_field c.column_type) (at k ∙ ap (field_of c.column_type) own)
      ∙ field-again c.column_type row are.0.few are.0.of_type are.0.bytes)
      (rows-again a c at (k + 1) rest step.1 are.1)

  -- a column whose fields stand at a place
  column-again : (a : ℕ) (c : Column) → ((d : ℕ) → get_or (row_fields all d) a [] ≡ field_at d c) → IsWhole n c
      → column_of_fields (row_records all n) (a, key_of_column c) ≡ Some c
  column-again a c at w =
      let rows = rows-again a c at 0 c.content.rows refl (whole-rows n c w) in
      let made : List (List Cell) → Option Column =
      λ found. Some (record { name = c.name; column_type = c.column_type; content = flat_content found }) in
      ap (λ m. for_each (λ fields. cells_of_field c.column_type (get_or fields a [])) (map (row_fields all) (range_with_len 0 m))
      >>= made) (sym w.sound.row_count)
      ∙ ap (λ o. o >>= made) rows
      ∙ (λ i. Some (record {
        name = c.name;
        column_type = c.column_type;
        content = record {
          cardinality = sym w.flat.cardinality i;
          terms = sym w.flat.terms i;
          rows = c.content.rows;
        };
      }))

  -- all columns from a place on
  columns-again : (a : ℕ) (cs : List Column) → StandAt a cs → AllByRecursion (IsWhole n) cs
      → for_each (column_of_fields (row_records all n)) (zip (range_with_len a (length (map key_of_column cs))) (map key_of_column cs))
      ≡ Some cs
  columns-again a [] at w = refl
  columns-again a (c ∷ cs) at w =
      some-more (column_of_fields (row_records all n)) (a, key_of_column c) c
      (zip (range_with_len (a + 1) (length (map key_of_column cs))) (map key_of_column cs)) cs
      (column-again a c (λ d. (drop-step a (row_fields all d) (field_at d c) (map (field_at d) cs) [] (at d)).0) w.0)
      (columns-again (a + 1) cs (λ d. (drop-step a (row_fields all d) (field_at d c) (map (field_at d) cs) [] (at d)).1) w.1)

  -- ---- the records of the rows

  -- a record begins with its row and has a field for each column
  record-again : (d : ℕ) → is_record_of (length (header_fields all)) (d, row_fields all d) ≡ true
  record-again d =
      let a = length-map all (field_at d) in
      let b = length-map all heading in
      and_from _ _ (eq-eqb (suc (length (map (field_at d) all))) (suc (length (map heading all))) (omega (arith, a, b)))
      (bytes_eq-same (decimal d))

  -- each record does
  numbers-again : (k m : ℕ)
      → list_all (is_record_of (length (header_fields all)))
      (zip (range_with_len k (length (map (row_fields all) (range_with_len k m)))) (map (row_fields all) (range_with_len k m)))
      ≡ true
  numbers-again k zero = refl
  numbers-again k (suc m) = and_from _ _ (record-again k) (numbers-again (k + 1) m)

-- ---- the table

-- each column of a flat and sound table is whole
are-whole : (n : ℕ) (cs : List Column) → AllByRecursion IsFlatColumn cs → AllByRecursion (IsSoundColumn n) cs
    → AllByRecursion (IsWhole n) cs
are-whole n [] f s = tt
are-whole n (c ∷ cs) f s = (record { flat = f.0; sound = s.0 }, are-whole n cs f.1 s.1)

-- the records of a table lead back to it
records-again : (t : Table) → IsFlat t → IsSound t → table_of_records (records_of t.columns t.row_count) ≡ Some t
records-again t flat sound =
    let cs = t.columns in
    let n = t.row_count in
    let rows = row_records cs n in
    let whole : Table → Option Table =
    λ t. only_if (list_all (is_record_of (length (header_fields cs))) (numbered rows)) t in
    ap (λ o. o >>= λ keys. for_each (column_of_fields rows) (placed keys)
    >>= λ columns. whole (record { row_count = length rows; columns = columns }))
    (keys-again cs (sound-named n cs sound.columns) (sound-keys cs sound.ascending sound.one_numerical))
    ∙ ap (λ o. o >>= λ columns. whole (record { row_count = length rows; columns = columns }))
    (columns-again cs n 1 cs (λ d. refl) (are-whole n cs flat sound.columns))
    ∙ ap (λ b. only_if b (record { row_count = length rows; columns = cs })) (numbers-again cs n 0 n)
    ∙ ap (λ m. Some (record { row_count = m; columns = cs }))
    (length-map (range_with_len 0 n) (row_fields cs) ∙ length-range_with_len 0 n)

-- The text of a flat and sound table leads back to the table.
pub lead-back : TextsLeadBack
unfolding table_of_csv
lead-back t flat sound =
    let back = reads-back t in
    ap (λ bytes. table_of_records (records default_config bytes)) back.unmarked
    ∙ ap table_of_records (records-found default_config (csv_of t) (records_of t.columns t.row_count) back.records)
    ∙ records-again t flat sound
