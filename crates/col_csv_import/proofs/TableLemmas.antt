-- The table of a text is what is written of the columns that its records fill.
use Rattle.std.proofs.Common.{◌≡◌, ◌∙◌, ◌<◌, ◌≤◌, ℕ, Bool, true, false, cond, List, [], ◌∷◌, map, length, get_or, Some, None, refl, sym, ap, subst}
use Rattle.std.specs.Prelude.{Option, option_map}
use Rattle.std.proofs.lemmas.Option.{same_Some}
use Rattle.col_common.specs.Ascending.{all_adjacent}
use Rattle.col_common.specs.Reading.{◌>>=◌, only_if}
use Rattle.csv.specs.Reading.{default_config, records, strip_bom}
use Rattle.col_model.specs.File.{for_each}
use Rattle.col_model.specs.Keys.{Key}
use Rattle.col_model.specs.Table.{Column, Table}
use Rattle.col_program.specs.Outcome.{max_script_length}
use Rattle.col_csv.specs.CsvTable.{TextsAreSound, column_of_fields, keys_of_header, placed, table_of_csv, table_of_records}
use Rattle.col_csv.specs.declared.csv_error.CsvError.{CsvError}
use Rattle.col_csv.specs.declared.csv_error.CsvError.TheVariants.{OutOfMemory, BadCsv}
use Rattle.col_csv_import.specs.Columns.{FilledColumn, no_values, slotted}
use Rattle.col_csv_import.specs.Filled.{FillsTable}
use Rattle.col_csv_import.specs.Made.{IsRefused}
use Rattle.col_csv_import.specs.Rows.{with_rows}
use Rattle.col_csv_import.proofs.ColumnLemmas.{Alike, AreColumnsOf, alike}
use Rattle.col_csv_import.proofs.HeaderLemmas.{header-is}
use Rattle.col_csv_import.proofs.KeyLemmas.{rise-keys, slots_rise}
use Rattle.col_csv_import.proofs.SlotLemmas.{rise-sorted}
use Rattle.col_csv_import.proofs.RowLemmas.{are_rows, columns_rows, rows-by_columns}
use Rattle.col_csv_import.proofs.WrittenLemmas.{slots-are, table-written}

-- the columns of keys, and of records behind the first
abbrev columns_of : List (List (List ℕ)) → List Key → Option (List Column)
columns_of rows ks = for_each (column_of_fields rows) (placed ks)

-- columns with so many rows, where the test holds
abbrev table_if : Bool → ℕ → List Column → Option Table
table_if b n columns = only_if b (record { row_count = n; columns = columns })

-- the table of keys and records
abbrev table_by : List (List ℕ) → List (List (List ℕ)) → List Key → Option Table
table_by header rows ks = columns_of rows ks >>= table_if (are_rows (length header) 0 rows) (length rows)

-- a test that fails leaves no table
no-table : (o : Option (List Column)) (n : ℕ) → (o >>= table_if false n) ≡ None
no-table None n = refl
no-table (Some xs) n = refl

module _ (bytes : List ℕ) (header : List (List ℕ)) (rows : List (List (List ℕ)))
    (read : records default_config (strip_bom bytes) ≡ header ∷ rows) where
  table-is : table_of_csv bytes ≡ (keys_of_header header >>= table_by header rows)
  unfolding table_of_csv
  table-is = ap table_of_records read

  header-none : keys_of_header header ≡ None → table_of_csv bytes ≡ None
  header-none e = table-is ∙ ap (λ o. o >>= table_by header rows) e

  of-keys : (ks : List Key) → keys_of_header header ≡ Some ks → table_of_csv bytes ≡ table_by header rows ks
  of-keys ks e = table-is ∙ ap (λ o. o >>= table_by header rows) e

  -- the records fill no columns of the keys
  none-filled : (ks : List Key) → keys_of_header header ≡ Some ks → with_rows (length header) 0 rows (map no_values ks) ≡ None
      → table_of_csv bytes ≡ None
  unfolding Alike
  none-filled ks e none =
      of-keys ks e
      ∙ by (are_rows (length header) 0 rows) (columns_rows 0 rows 1 (map no_values ks)) (columns_of rows ks) (alike rows 1 ks)
      (sym (rows-by_columns (length header) 0 rows (map no_values ks)) ∙ none)
    where
      by : (b : Bool) (p : Option (List FilledColumn)) (q : Option (List Column)) → Alike (length rows) ks p q
          → ◌≡◌ {A = Option (List FilledColumn)} (cond b p None) None
          → (q >>= table_if b (length rows)) ≡ None
      by false p q h e = no-table q (length rows)
      by true None None h e = refl
      by true None (Some xs) h e = absurd h
      by true (Some cs) q h e = absurd (cc e)

  -- the first record is refused
  pub header-refused : (e : CsvError) → IsRefused e (option_map (map no_values) (keys_of_header header))
      → IsRefused e (table_of_csv bytes)
  header-refused OutOfMemory h = tt
  header-refused BadCsv h = header-none (none-mapped (keys_of_header header) h)
    where
      none-mapped : (o : Option (List Key)) → option_map (map no_values) o ≡ None → o ≡ None
      none-mapped None h = refl
      none-mapped (Some ks) h = absurd (cc h)
  header-refused _ h = absurd h

  rows-none : (cs : List FilledColumn) → option_map (map no_values) (keys_of_header header) ≡ Some cs
      → with_rows (length header) 0 rows cs ≡ None → table_of_csv bytes ≡ None
  rows-none cs made none = by (keys_of_header header) refl made
    where
      by : (o : Option (List Key)) → keys_of_header header ≡ o → option_map (map no_values) o ≡ Some cs → table_of_csv bytes ≡ None
      by None is e = absurd (cc e)
      by (Some ks) is e =
          none-filled ks is (ap (with_rows (length header) 0 rows) (same_Some (map no_values ks) cs e) ∙ none)

  -- a record behind the first is refused
  pub rows-refused : (cs : List FilledColumn) (e : CsvError) → option_map (map no_values) (keys_of_header header) ≡ Some cs
      → IsRefused e (with_rows (length header) 0 rows cs) → IsRefused e (table_of_csv bytes)
  rows-refused cs OutOfMemory made h = tt
  rows-refused cs BadCsv made h = rows-none cs made h
  rows-refused cs _ made h = absurd h

  -- the columns of the definition beside those that were filled
  record IsFilledWith (ks : List Key) (cs : List FilledColumn) : Type 0 where
    columns : List Column
    are : AreColumnsOf (length rows) ks cs columns
    is : table_of_csv bytes ≡ Some (record { row_count = length rows; columns = columns })

  filled-with : (ks : List Key) (cs : List FilledColumn) → keys_of_header header ≡ Some ks
      → with_rows (length header) 0 rows (map no_values ks) ≡ Some cs → IsFilledWith ks cs
  unfolding Alike
  filled-with ks cs e some =
      by (are_rows (length header) 0 rows) (columns_rows 0 rows 1 (map no_values ks)) (columns_of rows ks) (alike rows 1 ks)
      (sym (rows-by_columns (length header) 0 rows (map no_values ks)) ∙ some) (of-keys ks e)
    where
      by : (b : Bool) (p : Option (List FilledColumn)) (q : Option (List Column)) → Alike (length rows) ks p q
          → cond b p None ≡ Some cs
          → table_of_csv bytes ≡ (q >>= table_if b (length rows))
          → IsFilledWith ks cs
      by false p q h e t = absurd (cc e)
      by true None q h e t = absurd (cc e)
      by true (Some ds) None h e t = absurd h
      by true (Some ds) (Some xs) h e t = record {
        columns = xs;
        are = subst (λ cs. AreColumnsOf (length rows) ks cs xs) (same_Some ds cs e) h;
        is = t;
      }

  -- the columns that the records fill are written as the table of the text
  fills : (ks : List Key) (cs : List FilledColumn) → ((i : ℕ) → get_or bytes i 0 < 256) → length bytes ≤ max_script_length
      → TextsAreSound → keys_of_header header ≡ Some ks → with_rows (length header) 0 rows (map no_values ks) ≡ Some cs
      → FillsTable (map slotted cs) (length rows) (table_of_csv bytes)
  fills ks cs small short sound e some =
      let h = header-is header ks e in
      let f = filled-with ks cs e some in
      let slots = slots-are (length rows) ks cs f.columns f.are in
      let own = sound bytes (record { row_count = length rows; columns = f.columns }) small short f.is in
      record {
        table = record { row_count = length rows; columns = f.columns };
        is = f.is;
        sorted = rise-sorted (map slotted cs) (ap (all_adjacent slots_rise) slots ∙ rise-keys ks h.named h.keys);
        made = table-written (length rows) ks cs f.columns f.are h.named own.columns;
      }

  pub rows-filled : (cs ds : List FilledColumn) (n : ℕ) → ((i : ℕ) → get_or bytes i 0 < 256) → length bytes ≤ max_script_length
      → TextsAreSound → option_map (map no_values) (keys_of_header header) ≡ Some cs
      → with_rows (length header) 0 rows cs ≡ Some ds → n ≡ length rows
      → FillsTable (map slotted ds) n (table_of_csv bytes)
  rows-filled cs ds n small short sound made some is =
      subst (λ m. FillsTable (map slotted ds) m (table_of_csv bytes)) (sym is) (by (keys_of_header header) refl made)
    where
      by : (o : Option (List Key)) → keys_of_header header ≡ o → option_map (map no_values) o ≡ Some cs
          → FillsTable (map slotted ds) (length rows) (table_of_csv bytes)
      by None is e = absurd (cc e)
      by (Some ks) is e =
          fills ks ds small short sound is (ap (with_rows (length header) 0 rows) (same_Some (map no_values ks) cs e) ∙ some)

-- a text without records has no table
pub nothing-read : (bytes : List ℕ) → records default_config (strip_bom bytes) ≡ [] → table_of_csv bytes ≡ None
unfolding table_of_csv
nothing-read bytes e = ap table_of_records e
