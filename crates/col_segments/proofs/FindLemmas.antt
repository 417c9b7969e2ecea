-- Rows that have a value of a range, by the columns that were opened.
use Rattle.std.proofs.Common.{◌≡◌, ℕ, pos, ◌==◌, ◌&&◌, not, Bool, true, false, cond, List, [], ◌∷◌, map, length, Option, Some, None, IfSome, option_map, option_and_then, unwrap_or, refl, sym, ap, ◌∙◌, subst}
use Rattle.std.specs.List.{AllByRecursion, AllZip, list_any}
use Rattle.col_dynamic.specs.Dynamic.{type_of, content_of}
use Rattle.col_dynamic.specs.declared.dynamic_column.DynamicColumn.{DynamicColumn}
use Rattle.col_file.specs.Readers.{SeenReader}
use Rattle.col_merge.specs.Opened.{AllOpenedAs, IsOpenedAs}
use Rattle.col_merge.specs.JoinedSlots.{part_seen}
use Rattle.col_merge.specs.Segments.{column_seen}
use Rattle.col_model.specs.Category.{Slot, slot_of, category_of, same_slot}
use Rattle.col_model.specs.ColumnType.{ColumnType}
use Rattle.col_model.specs.File.{whole_column}
use Rattle.col_model.specs.Lookup.{is_between, row_of}
use Rattle.col_model.specs.Merge.{column_in}
use Rattle.col_model.specs.Sound.{IsSound, IsSoundColumn}
use Rattle.col_model.specs.Table.{Table}
use Rattle.col_model.proofs.ListLaws.{find-passes}
use Rattle.col_model.proofs.OrderedColumns.{same-slots}
use Rattle.col_model.proofs.SlotLaws.{column_slot}
use Rattle.col_places.specs.Places.{places_of}
use Rattle.col_places.specs.Ranges.{is_row_between}
use Rattle.col_places.proofs.KindLemmas.{kind-same}
use Rattle.col_places.proofs.WalkLemmas.{places-map, places-none}
use Rattle.col_program.specs.Queries.{End, cell_of, is_kind, num}
use Rattle.col_model.proofs.StackSeen.{found-all}
use Rattle.col_segments.specs.Files.{ReadsTable}
use Rattle.col_segments.specs.Found.{FitsTable, HasColumn, MayFit, has_value}
use Rattle.col_segments.specs.Live.{row_in, with_alive}
use Rattle.col_segments.specs.Segments.{HeldTable}
use Rattle.col_segments.proofs.LiveLemmas.{part-column}
use Rattle.col_segments.proofs.ReaderLemmas.{kept_tables, zip-through}

-- ---- columns of tables

-- what was opened of a table's file is the table's column
column-opened : (slot : Slot) (t : Table) (r : SeenReader) (o : Option DynamicColumn) → ReadsTable t r → IsOpenedAs slot r o
    → HasColumn slot t o
column-opened slot t r o reads opened =
    let seen =
    subst (λ p. IfSome p (λ p. column_in slot p ≡ option_map (part_seen slot.name) o)) reads.part opened.column in
    sym (part-column slot t.columns) ∙ ap (option_and_then whole_column) seen ∙ by o
  where
    by : (o : Option DynamicColumn)
        → option_and_then whole_column (option_map (part_seen slot.name) o) ≡ option_map (column_seen slot.name) o
    by None = refl
    by (Some c) = refl

-- the same of all
pub columns-opened : (slot : Slot) (tables : List Table) (rs : List SeenReader) (columns : List (Option DynamicColumn))
    → AllZip ReadsTable tables rs → AllOpenedAs slot rs columns → AllZip (HasColumn slot) tables columns
columns-opened slot tables rs columns reads opened =
    zip-through ReadsTable (IsOpenedAs slot) (HasColumn slot) tables rs columns (column-opened slot) reads opened

-- ---- one column, of a sound table

-- no cell is one of a range
no-cell : (t : ColumnType) (lo hi : End) → is_row_between t lo hi [] ≡ false
no-cell t lo hi = by (is_kind t lo) (is_kind t hi)
  where
    by : (a b : Bool) → (a && b && false) ≡ false
    by true true = refl
    by true false = refl
    by false b = refl

module _ (name : List ℕ) (t : ColumnType) (lo hi : End) (table : Table) (first : ℕ) (alive : List ℕ) where
  abbrev rows_found : List ℕ
  rows_found = places_of first (has_value name t lo hi) (map (row_in table) alive)

  -- a table without the column has no such row
  pub found-without : HasColumn (slot_of name t) table None → rows_found ≡ []
  found-without none =
      places-map first (row_in table) (has_value name t lo hi) (λ r. false) alive
      (λ r. ap (λ o. is_row_between t lo hi (unwrap_or (option_map (λ c. row_of c.content r) o) [])) none ∙ no-cell t lo hi)
      ∙ places-none first (λ r. false) alive (λ r. refl)

  module _ (c : DynamicColumn) (has : HasColumn (slot_of name t) table (Some c)) where
    same-kind : category_of (type_of c) ≡ category_of t
    same-kind =
        ap (λ (s : Slot). s.category)
        (same-slots (column_slot (column_seen name c)) (slot_of name t)
        (find-passes (λ c. same_slot (slot_of c.name c.column_type) (slot_of name t)) table.columns (column_seen name c) has))

    -- the rows of a table by its column
    pub found-with : rows_found
        ≡ places_of first (λ r. is_row_between (type_of c) lo hi (row_of (content_of c) r)) alive
    found-with =
        places-map first (row_in table) (has_value name t lo hi)
        (λ r. is_row_between (type_of c) lo hi (row_of (content_of c) r)) alive
        (λ r. ap (λ o. is_row_between t lo hi (unwrap_or (option_map (λ c. row_of c.content r) o) [])) has
        ∙ (λ i. kind-same t (type_of c) (sym same-kind) lo i && kind-same t (type_of c) (sym same-kind) hi i
        && list_any (is_between (cell_of lo) (cell_of hi)) (row_of (content_of c) r)))

    -- the column of a sound table is sound
    pub found-sound : IsSound table → IsSoundColumn table.row_count (column_seen name c)
    found-sound sound =
        found-all (IsSoundColumn table.row_count) (λ c. same_slot (slot_of c.name c.column_type) (slot_of name t)) table.columns
        (column_seen name c) sound.columns has

    -- and has the table's rows
    pub found-fits : IsSound table → FitsTable table c
    found-fits sound =
        let own = found-sound sound in
        record { rows = own.row_count; cells = own.cells }

-- ---- all columns

fits-one : (name : List ℕ) (t : ColumnType) (table : Table) (o : Option DynamicColumn) → IsSound table
    → HasColumn (slot_of name t) table o → MayFit table o
fits-one name t table None sound has = tt
fits-one name t table (Some c) sound has = found-fits name t (num (pos 0)) (num (pos 0)) table 0 [] c has sound

tables-sound : (hs : List HeldTable) → AllByRecursion (λ (h : HeldTable). IsSound h.table) hs → AllByRecursion IsSound (kept_tables hs)
tables-sound [] all = tt
tables-sound (h ∷ hs) all = by (not (length h.alive == 0)) (tables-sound hs all.1)
  where
    by : (b : Bool) → AllByRecursion IsSound (kept_tables hs)
        → AllByRecursion IsSound (map (λ (h : HeldTable). h.table) (cond b (h ∷ with_alive hs) (with_alive hs)))
    by true later = (all.0, later)
    by false later = later

zip-fits : (name : List ℕ) (t : ColumnType) (tables : List Table) (os : List (Option DynamicColumn)) → AllByRecursion IsSound tables
    → AllZip (HasColumn (slot_of name t)) tables os → AllZip MayFit tables os
zip-fits name t [] [] all has = tt
zip-fits name t [] (o ∷ os) all has = absurd has
zip-fits name t (table ∷ tables) [] all has = absurd has
zip-fits name t (table ∷ tables) (o ∷ os) all has = (fits-one name t table o all.0 has.0, zip-fits name t tables os all.1 has.1)

-- what was opened of the files of sound tables
pub all-fit : (name : List ℕ) (t : ColumnType) (hs : List HeldTable) (os : List (Option DynamicColumn))
    → AllByRecursion (λ (h : HeldTable). IsSound h.table) hs → AllZip (HasColumn (slot_of name t)) (kept_tables hs) os
    → AllZip MayFit (kept_tables hs) os
all-fit name t hs os all = zip-fits name t (kept_tables hs) os (tables-sound hs all)
