-- The file of the columns that were put again.
use Rattle.std.proofs.Common.{◌≡◌, ℕ, true, List, [], ◌∷◌, map, is_some, Option, Some, None, IfSome, OnOk, Result, Ok, Err, refl, sym, ap, ◌∙◌, subst}
use Rattle.std.specs.List.{AllByRecursion}
use Rattle.col_common.specs.Outside.{SeenSink, Appends}
use Rattle.col_common.specs.Reading.{◌>>=◌}
use Rattle.col_common.specs.Serializing.{Serializes}
use Rattle.col_common.specs.declared.error.ColumnarError.{ColumnarError}
use Rattle.col_model.specs.File.{PartColumn, part_column, whole_column, for_each, table_of}
use Rattle.col_model.specs.Keys.{Entry, FileKeys, Key, is_name, are_keys, keys}
use Rattle.col_model.specs.Spelling.{file_bytes}
use Rattle.col_model.specs.Table.{Column, Content}
use Rattle.col_model.proofs.DecodedTables.{keys-read, keys-named, key_table-keys, keys_of_entries}
use Rattle.col_model.proofs.PartLaws.{whole-columns}
use Rattle.col_keys.specs.Put.{PutColumns, HavePut, AreKeys, HasColumns, part_put}
use Rattle.col_keys.proofs.StandLemmas.{stands-for}
use Rattle.col_file.specs.Checks.{is_column}
use Rattle.col_file.specs.Readers.{SeenReader, IsRead}
use Rattle.col_upgrade.specs.Upgrades.{AddsTable, AreAgain, PutSoFar, UpgradesFile}
use Rattle.col_upgrade.proofs.PutLemmas.{table-keys, serialize-refused}

-- ---- the keys

-- the key of a part
abbrev key_of_part : PartColumn → Key
key_of_part c = record { name = c.name; column_type = c.column_type }

keys-put : (n : ℕ) (ps : List (Key × List ℕ)) → map key_of_part (map (part_put n) ps) ≡ map (λ p. p.0) ps
keys-put n [] = refl
keys-put n (p ∷ ps) = ap (λ ks. p.0 ∷ ks) (keys-put n ps)

keys-entries : (bytes : List ℕ) (k : FileKeys) (es : List Entry) → map key_of_part (map (part_column bytes k) es) ≡ map (λ e. e.key) es
keys-entries bytes k [] = refl
keys-entries bytes k (e ∷ es) = ap (λ ks. e.key ∷ ks) (keys-entries bytes k es)

-- names of entries are names of their keys
names-of : (es : List Entry) → AllByRecursion (λ (e : Entry). is_name e.key.name ≡ true) es
    → AllByRecursion (λ (key : Key). is_name key.name ≡ true) (map (λ e. e.key) es)
names-of [] all = tt
names-of (e ∷ es) all = (all.0, names-of es all.1)

-- the entries of a file have keys of one file
are-keys : (bytes : List ℕ) (k : FileKeys) → keys bytes ≡ Some k → AreKeys (map (λ e. e.key) k.entries)
are-keys bytes k read =
    let r = keys-read bytes k read in
    record {
      names = names-of k.entries (keys-named bytes k read);
      ascend = ap (λ (k : FileKeys). are_keys (map (λ e. e.key) k.entries)) (sym r.are)
          ∙ ap are_keys (keys_of_entries 0 r.found) ∙ key_table-keys r.table r.found r.lists;
    }

-- ---- the table

-- columns that all stand for something are those of a table
each-some : (bytes : List ℕ) (k : FileKeys) (es : List Entry) → AllByRecursion (λ e. is_column bytes k e ≡ true) es
    → (cs : List Column) × (for_each whole_column (map (part_column bytes k) es) ≡ Some cs)
each-some bytes k [] all = ([], refl)
each-some bytes k (e ∷ es) all = by (part_column bytes k e).content refl all.0 (each-some bytes k es all.1)
  where
    by : (o : Option Content) → (part_column bytes k e).content ≡ o → is_some o ≡ true
        → ((cs : List Column) × (for_each whole_column (map (part_column bytes k) es) ≡ Some cs))
        → (cs : List Column) × (for_each whole_column (map (part_column bytes k) (e ∷ es)) ≡ Some cs)
    by None at h rest = cc
    by (Some content) at h rest =
        let c : Column = record { name = e.key.name; column_type = e.key.column_type; content = content } in
        (c ∷ rest.0, rw (at, rest.1) refl)

module _ (bytes : List ℕ) (k : FileKeys) (ps : List (Key × List ℕ)) (read : keys bytes ≡ Some k)
    (are : AreAgain bytes k k.entries ps) where
  -- the keys under which columns were put
  pub put-keys : AreKeys (map (λ p. p.0) ps)
  put-keys =
      subst AreKeys (sym (keys-entries bytes k k.entries) ∙ ap (map key_of_part) (sym are.same) ∙ keys-put k.row_count ps)
      (are-keys bytes k read)

  -- a file of the columns has the table
  table-added : (a b : SeenSink) → Appends a b (file_bytes k.row_count ps) → HasColumns (file_bytes k.row_count ps) k.row_count ps
      → AddsTable a b (table_of bytes)
  table-added a b added has =
      let each = each-some bytes k k.entries are.whole in
      record {
        table = record { row_count = k.row_count; columns = each.0 };
        is = table-keys bytes k read
            ∙ ap (λ (o : Option (List Column)). o >>= λ columns. Some (record { row_count = k.row_count; columns = columns })) each.1;
        file = file_bytes k.row_count ps;
        added = added;
        stands =
            stands-for (file_bytes k.row_count ps) k.row_count ps each.0 has
            (are.same ∙ whole-columns (map (part_column bytes k) k.entries) each.0 each.1);
      }

-- The end of the file was written behind all columns, or not.
pub file-ended : (old new : SeenReader) (start mid end : SeenSink) (columns : PutColumns)
    (r : Result (Unit {0}) ColumnarError) (n : ℕ) → IsRead old → n ≡ old.keys.row_count
    → PutSoFar old start mid columns old.keys.entries
    → ((a : SeenSink) (ps : List (Key × List ℕ)) → HavePut a mid columns ps → Serializes a end r (file_bytes n ps))
    → OnOk r ((a : SeenSink) (ps : List (Key × List ℕ)) → HavePut a mid columns ps → AreKeys (map (λ p. p.0) ps)
    → HasColumns (file_bytes n ps) n ps)
    → UpgradesFile old.file new.file start end r
file-ended old new start mid end columns (Ok done) n read rows put file has = at old.file.told read.told put.told
  where
    written : Appends start end (file_bytes old.keys.row_count put.ps)
    written = subst (λ n. Appends start end (file_bytes n put.ps)) rows (file start put.ps put.put).ok

    columns-of : AreKeys (map (λ p. p.0) put.ps) → HasColumns (file_bytes old.keys.row_count put.ps) old.keys.row_count put.ps
    columns-of keyed = subst (λ n. HasColumns (file_bytes n put.ps) n put.ps) rows (has start put.ps put.put keyed)

    at : (o : Option (List ℕ)) → IfSome o (λ bytes. keys bytes ≡ Some old.keys)
        → IfSome o (λ bytes. AreAgain bytes old.keys old.keys.entries put.ps)
        → IfSome o (λ bytes. AddsTable start end (table_of bytes))
    at None k are = tt
    at (Some bytes) k are =
        table-added bytes old.keys put.ps k are start end written (columns-of (put-keys bytes old.keys put.ps k are))
file-ended old new start mid end columns (Err e) n read rows put file has =
    serialize-refused old.file new.file start end e (file_bytes n put.ps) table_of (file start put.ps put.put)
