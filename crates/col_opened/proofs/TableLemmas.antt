-- The table of the columns that were opened.
use Rattle.std.proofs.Common.{◌≡◌, ◌∙◌, ◌≤◌, ℕ, Bool, true, List, [], ◌∷◌, map, length, replicate, count_by, is_some, Option, Some, None, IfSome, Result, Ok, Err, refl, sym, ap, subst, arith}
use Rattle.std.specs.List.{AllByRecursion}
use Rattle.std.proofs.lemmas.List.{length-map}
use Rattle.col_common.specs.Reading.{◌>>=◌}
use Rattle.col_common.specs.declared.error.ColumnarError.{ColumnarError}
use Rattle.col_common.specs.declared.error.ColumnarError.TheVariants.{OutOfMemory, ReadFault, InvalidData}
use Rattle.col_common.specs.Outside.{SeenFile}
use Rattle.col_model.specs.File.{for_each, table_of}
use Rattle.col_model.specs.Keys.{Entry, FileKeys, keys}
use Rattle.col_model.specs.Table.{Column}
use Rattle.col_model.proofs.DecodedTables.{keys-are}
use Rattle.col_model.proofs.StatsLaws.{all_mapped}
use Rattle.col_file.specs.Files.{IsExpected, RefusesFile, AnswersForHandle}
use Rattle.col_file.specs.Handles.{Handle, handle_of, listed, is_entry}
use Rattle.col_file.proofs.PartLemmas.{own-handles}
use Rattle.col_opened.specs.Chosen.{chosen, places_from, table_where, whole_entry}
use Rattle.col_opened.specs.Opened.{column_of, flags_in, Listed, seen_listed, entry_listed, AreOpen, HasRows}
use Rattle.col_opened.specs.declared.open_columns.OpenColumns.{OpenColumns}
use Rattle.col_opened.proofs.ChosenLemmas.{chosen-few, all-chosen, flags-placed}
use Rattle.col_opened.proofs.OpenLemmas.{AreListed, whole_listed}
use Rattle.col_opened.proofs.ReadLemmas.{whole-keys, table-read, table-whole, table_with}

-- ---- the entries that are listed

-- the entry of a name and a handle
abbrev entry_at : List ℕ × Handle → Entry
entry_at p = record {
  key = record { name = p.0; column_type = p.1.column_type };
  start = p.1.start;
  «end» = p.1.«end»;
}

entries-listed : (es : List Entry) → map entry_at (map listed es) ≡ es
entries-listed [] = refl
entries-listed (e ∷ es) = ap (λ r. e ∷ r) (entries-listed es)

seen-listed : (ps : List Listed) → map entry_at (map seen_listed ps) ≡ map entry_listed ps
seen-listed [] = refl
seen-listed (p ∷ ps) = ap (λ r. entry_listed p ∷ r) (seen-listed ps)

-- they are the entries of which they are the names and the handles
pub listed-entries : (ps : List Listed) (es : List Entry) → map seen_listed ps ≡ map listed es → map entry_listed ps ≡ es
listed-entries ps es e = sym (seen-listed ps) ∙ ap (map entry_at) e ∙ entries-listed es

module _ (k : FileKeys) (wanted : List Bool) (ps : List Listed) (e : map seen_listed ps ≡ map listed (chosen wanted k.entries)) where
  -- those that are chosen are entries
  pub are-listed : AreListed k ps
  are-listed = all_mapped (λ x. is_entry k (handle_of x) ≡ true) entry_listed ps
      (subst (AllByRecursion (λ x. is_entry k (handle_of x) ≡ true)) (sym (listed-entries ps (chosen wanted k.entries) e))
      (all-chosen (λ x. is_entry k (handle_of x) ≡ true) wanted k.entries (own-handles k)))

  -- no more are listed than flags are set
  pub few-listed : length ps ≤ count_by (λ w. w) wanted
  few-listed = omega (
    arith,
    sym (length-map ps entry_listed),
    ap length (listed-entries ps (chosen wanted k.entries) e),
    chosen-few wanted k.entries,
  )

  -- what their bytes stand for is what those of the chosen entries stand for
  whole-chosen : (bytes : List ℕ) → whole_listed k ps bytes ≡ for_each (whole_entry bytes k) (chosen wanted k.entries)
  whole-chosen bytes = ap (for_each (whole_entry bytes k)) (listed-entries ps (chosen wanted k.entries) e)

  -- a refusal of one of them is one of the table
  pub table-refused : (old new : SeenFile) → IfSome old.told (λ bytes. keys bytes ≡ Some k) → (x : ColumnarError)
      → RefusesFile old new x (whole_listed k ps) → RefusesFile old new x (table_where wanted)
  table-refused old new read OutOfMemory h = tt
  table-refused old new read InvalidData h = at old.told read h
    where
      at : (o : Option (List ℕ)) → IfSome o (λ bytes. keys bytes ≡ Some k)
          → IfSome o (λ bytes. whole_listed k ps bytes ≡ None) → IfSome o (λ bytes. table_where wanted bytes ≡ None)
      at None read h = tt
      at (Some bytes) read h =
          table-read wanted bytes k read ∙ ap (λ o. o >>= table_with k) (sym (whole-chosen bytes) ∙ h)
  table-refused old new read ReadFault h = h
  table-refused old new read _ h = absurd h

  module _ (c : OpenColumns) (long : length wanted ≡ length k.entries) (placed : c.places.items ≡ places_from 0 wanted)
      (rows : AllByRecursion (HasRows k.row_count) (map column_of c.columns.items)) where
    flags-are : flags_in c ≡ wanted
    flags-are = ap (map is_some) placed ∙ flags-placed 0 wanted

    -- columns that were opened are those of the table
    are-open : (bytes : List ℕ) (cs : List Column) → keys bytes ≡ Some k
        → for_each (whole_entry bytes k) (chosen wanted k.entries) ≡ Some cs → map column_of c.columns.items ≡ cs
        → AreOpen k (record { row_count = k.row_count; columns = cs }) c
    are-open bytes cs read whole made = record {
      row_count = refl;
      columns = made;
      rows = subst (AllByRecursion (HasRows k.row_count)) made rows;
      distinct = keys-are bytes k read;
      keys =
          whole-keys bytes k (chosen wanted k.entries) cs whole
          ∙ ap (λ ws. map (λ e. e.key) (chosen ws k.entries)) (sym flags-are);
      flags = ap length flags-are ∙ long;
      places = placed ∙ ap (places_from 0) (sym flags-are);
    }

    pub table-opened : (told : Option (List ℕ)) → IfSome told (λ bytes. keys bytes ≡ Some k)
        → IfSome told (λ bytes. IsExpected (λ ps columns. map column_of columns.items ≡ ps) c.columns (whole_listed k ps bytes))
        → IfSome told (λ bytes. IsExpected (λ t columns. AreOpen k t columns) c (table_where wanted bytes))
    table-opened None read h = tt
    table-opened (Some bytes) read h =
        subst (IsExpected (λ t columns. AreOpen k t columns) c) (sym (table-read wanted bytes k read))
        (by (for_each (whole_entry bytes k) (chosen wanted k.entries)) refl
        (subst (IsExpected (λ ps columns. map column_of columns.items ≡ ps) c.columns) (whole-chosen bytes) h))
      where
        by : (o : Option (List Column)) → for_each (whole_entry bytes k) (chosen wanted k.entries) ≡ o
            → IsExpected (λ ps columns. map column_of columns.items ≡ ps) c.columns o
            → IsExpected (λ t columns. AreOpen k t columns) c (o >>= table_with k)
        by None whole made = absurd made
        by (Some cs) whole made = are-open bytes cs read whole made

-- ---- all columns

module _ (k : FileKeys) (wanted : List Bool) (n : ℕ) (set : wanted ≡ replicate n true) (many : n ≡ length k.entries) where
  whole : (bytes : List ℕ) → keys bytes ≡ Some k → table_where wanted bytes ≡ table_of bytes
  whole bytes read = ap (λ ws. table_where ws bytes) set ∙ table-whole bytes k n read many

  -- what is answered of all entries is answered of the file's table
  pub answers-all : (old new : SeenFile) → IfSome old.told (λ bytes. keys bytes ≡ Some k) → (r : Result OpenColumns ColumnarError)
      → AnswersForHandle (λ t columns. AreOpen k t columns) old new r (table_where wanted)
      → AnswersForHandle (λ t columns. AreOpen k t columns) old new r table_of
  answers-all old new read (Ok c) h = at old.told read h
    where
      at : (o : Option (List ℕ)) → IfSome o (λ bytes. keys bytes ≡ Some k)
          → IfSome o (λ bytes. IsExpected (λ t columns. AreOpen k t columns) c (table_where wanted bytes))
          → IfSome o (λ bytes. IsExpected (λ t columns. AreOpen k t columns) c (table_of bytes))
      at None read h = tt
      at (Some bytes) read h = subst (IsExpected (λ t columns. AreOpen k t columns) c) (whole bytes read) h
  answers-all old new read (Err OutOfMemory) h = tt
  answers-all old new read (Err InvalidData) h = at old.told read h
    where
      at : (o : Option (List ℕ)) → IfSome o (λ bytes. keys bytes ≡ Some k)
          → IfSome o (λ bytes. table_where wanted bytes ≡ None) → IfSome o (λ bytes. table_of bytes ≡ None)
      at None read h = tt
      at (Some bytes) read h = sym (whole bytes read) ∙ h
  answers-all old new read (Err ReadFault) h = h
  answers-all old new read (Err _) h = absurd h
