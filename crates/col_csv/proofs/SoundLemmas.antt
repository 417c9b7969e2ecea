-- The table of a text that isn't too long is sound.
use Rattle.std.proofs.Common.{◌≡◌, ℕ, ◌+◌, ◌*◌, ◌≤◌, ◌<◌, ◌^◌, Bool, true, false, List, [], ◌∷◌, map, filter_map, length, refl, sym, ◌∙◌, ap, subst, arith}
use Rattle.std.specs.Prelude.{if◌then◌else◌}
use Rattle.std.specs.List.{list_all, AllByRecursion}
use Rattle.std.proofs.lemmas.Bool.{and_parts}
use Rattle.csv.specs.Reading.{default_config, is_bom, records, strip_bom}
use Rattle.csv.specs.declared.parser.State.TheVariants as st
use Rattle.col_common.specs.Ascending.{is_ascending}
use Rattle.col_model.specs.Keys.{is_name, key_bytes}
use Rattle.col_model.specs.Limits.{is_of_type}
use Rattle.col_model.specs.Sound.{are_bytes, has_bytes, is_among, is_row_of, key_of_column, IsSoundColumn, IsSound}
use Rattle.col_model.specs.Table.{Column, Table}
use Rattle.col_model.specs.U64List.{joined_lists}
use Rattle.col_model.specs.Written.{text_of, texts_of}
use Rattle.col_model.proofs.DecodedColumns.{bytes-are}
use Rattle.col_model.proofs.ListLaws.{map-map}
use Rattle.col_model.proofs.MergedSound.{all-numbers}
use Rattle.col_model.proofs.SoundTables.{cells-among, distinct-ascend, rows-all, texts-bytes, tightest-rows}
use Rattle.col_model.proofs.WrittenSound.{texts-none}
use Rattle.col_program.specs.Outcome.{max_script_length}
use Rattle.col_csv.specs.CsvTable.{table_of_csv, TextsAreSound}
use Rattle.col_csv.proofs.HeaderLemmas.{numbers-named}
use Rattle.col_csv.proofs.HeldLemmas.{are-held}
use Rattle.col_csv.proofs.RecordLemmas.{records-bytes, records-size, size, total}
use Rattle.col_csv.proofs.SizeLemmas.{within-limits}
use Rattle.col_csv.proofs.TableLemmas.{IsTableOf, StandFrom, StandsAt, has-table}

-- ---- columns

-- records of bytes that hold little
pub record AreSmall (rows : List (List (List ℕ))) : Type 0 where
  pub few : 4 * total rows + 4 < 2 ^ 32
  pub bytes : list_all (list_all are_bytes) rows ≡ true

-- a column of such records is sound
column-sound : (rows : List (List (List ℕ))) (a : ℕ) (c : Column) → is_name c.name ≡ true → AreSmall rows → StandsAt rows a c
    → IsSoundColumn (length rows) c
column-sound rows a c named small stands =
    let t = c.column_type in
    let found = c.content.rows in
    let cells = joined_lists found in
    let held = are-held a t rows found stands.cells small.bytes in
    let terms = stands.flat.terms in
    let little = held.held in
    let few = small.few in
    record {
      name = named;
      row_count = held.long;
      cardinality = ap (λ k. list_all (is_row_of k) found) stands.flat.cardinality ∙ tightest-rows found;
      cells = held.of_type;
      bytes = ap (list_all are_bytes) terms ∙ texts-bytes cells (rows-all has_bytes found ∙ held.bytes);
      ascending = ap is_ascending terms ∙ distinct-ascend (filter_map text_of cells);
      among = ap (λ terms. list_all (list_all (is_among terms)) found) terms
          ∙ sym (rows-all (is_among (texts_of cells)) found) ∙ cells-among cells;
      without = λ e. terms ∙ texts-none cells (all-numbers t cells e (rows-all (is_of_type t) found ∙ held.of_type));
      limits = within-limits t c.content stands.flat.few terms (omega (arith, little, few));
    }

-- all columns from a place on are
columns-sound : (rows : List (List (List ℕ))) (a : ℕ) (cs : List Column) → AreSmall rows
    → AllByRecursion (λ k. is_name k.name ≡ true) (map key_of_column cs) → StandFrom rows a cs
    → AllByRecursion (IsSoundColumn (length rows)) cs
columns-sound rows a [] small named all = tt
columns-sound rows a (c ∷ cs) small named all =
    (column-sound rows a c named.0 small all.0, columns-sound rows (a + 1) cs small named.1 all.1)

-- ---- the table

-- there are at most as many records as they hold
records-few : (rs : List (List (List ℕ))) → length rs ≤ total rs
records-few [] = omega arith
records-few (r ∷ rs) = let later = records-few rs in let one = has-size r in omega (arith, later, one)
  where
    has-size : (r : List (List ℕ)) → 1 ≤ size r
    has-size [] = omega arith
    has-size (f ∷ fields) = omega arith

-- a table whose records are small is sound
table-sound : (header : List (List ℕ)) (rows : List (List (List ℕ))) (t : Table) → IsTableOf header rows t → AreSmall rows → IsSound t
table-sound header rows t is small =
    let count = is.row_count in
    let many = records-few rows in
    let few = small.few in
    let keys = and_parts (is_ascending (map key_bytes (map key_of_column t.columns))) _ is.header_is.ascending in
    record {
      row_count = omega (arith, count, many, few);
      ascending = ap is_ascending (sym (map-map key_bytes key_of_column t.columns)) ∙ keys.0;
      one_numerical = ap is_ascending (sym (numbers-named t.columns)) ∙ keys.1;
      columns = subst (λ n. AllByRecursion (IsSoundColumn n) t.columns) count
          (columns-sound rows 1 t.columns small is.header_is.named is.columns);
    }

-- ---- the text

-- a text behind its mark is no longer, and of bytes
record IsBehind (bytes behind : List ℕ) : Type 0 where
  long : length behind ≤ length bytes
  are : are_bytes behind ≡ true

-- a text without its mark is such a part
stripped : (bytes : List ℕ) → are_bytes bytes ≡ true → IsBehind bytes (strip_bom bytes)
unfolding strip_bom
stripped [] e = record { long = omega arith; are = refl }
stripped (a ∷ []) e = record { long = omega arith; are = e }
stripped (a ∷ b ∷ []) e = record { long = omega arith; are = e }
stripped (a ∷ b ∷ c ∷ rest) e = by (is_bom a b c)
  where
    by : (m : Bool) → IsBehind (a ∷ b ∷ c ∷ rest) (if m then rest else a ∷ b ∷ c ∷ rest)
    by true = record {
      long = omega arith;
      are = (and_parts _ (are_bytes rest) (and_parts _ (are_bytes (c ∷ rest)) (and_parts _ (are_bytes (b ∷ c ∷ rest)) e).1).1).1;
    }
    by false = record { long = omega arith; are = e }

-- the records of a text that isn't too long are small
records-small : (bytes : List ℕ) → are_bytes bytes ≡ true → length bytes ≤ max_script_length
    → AreSmall (records default_config (strip_bom bytes))
records-small bytes e h =
    let behind = strip_bom bytes in
    let is = stripped bytes e in
    let long = is.long in
    let much = records-size default_config (length behind + 1) st.StartRecord behind in
    record {
      few = omega (arith, h, long, much);
      bytes = records-bytes default_config (length behind + 1) st.StartRecord behind is.are;
    }

-- the same behind the first
behind-first : (r : List (List ℕ)) (rs : List (List (List ℕ))) → AreSmall (r ∷ rs) → AreSmall rs
behind-first r rs small =
    let few = small.few in
    record { few = omega (arith, few); bytes = (and_parts (list_all are_bytes r) (list_all (list_all are_bytes) rs) small.bytes).1 }

-- The table of a text that isn't too long is sound.
pub are-sound : TextsAreSound
unfolding table_of_csv
are-sound bytes t is_bytes short e =
    let has = has-table (records default_config (strip_bom bytes)) t e in
    let small = subst AreSmall has.are (records-small bytes (bytes-are bytes is_bytes) short) in
    table-sound has.header has.rows t has.is (behind-first has.header has.rows small)
