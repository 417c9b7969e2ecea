-- Files in memory that are opened.
use Rattle.std.proofs.Common.{◌≡◌, inl, inr, ℕ, ◌&&◌, Bool, true, false, List, [], ◌∷◌, map, Option, Some, None, is_some, unwrap_or, option_and_then, Ok, Err, IfSome, refl, sym, ap, ◌∙◌, arith}
use Rattle.std.specs.List.{list_all}
use Rattle.std.proofs.lemmas.Option.{same_Some}
use Rattle.col_common.specs.Causes.{Rose}
use Rattle.col_common.specs.Outside.{SeenFile}
use Rattle.col_common.specs.declared.error.ColumnarError.{ColumnarError}
use Rattle.col_common.specs.declared.error.ColumnarError.TheVariants.{OutOfMemory, ReadFault, InvalidData}
use Rattle.col_file.specs.Checks.{is_column}
use Rattle.col_file.specs.Files.{RefusesFile}
use Rattle.col_file.specs.Readers.{SeenReader}
use Rattle.col_model.specs.File.{PartColumn, parts_of, part_column, table_of, table_of_part, whole_column, for_each}
use Rattle.col_model.specs.Keys.{Entry, FileKeys, keys}
use Rattle.col_model.specs.Refusal.{◌>>=◌, or_refuse, invalid_data}
use Rattle.col_model.specs.Table.{Column, Content, Table}
use Rattle.col_model.proofs.PartLaws.{whole-part}
use Rattle.col_segments.specs.Files.{no_table, table_in, IsTableFile, ReadsTable, OpensBytes}
use Rattle.col_segments.specs.Segments.{all_alive, whole_file}
use Rattle.col_writer_columns.specs.Answers.{MayRefuse}

-- ---- the end of a file

-- nothing in memory fails
unfaulted : Rose 0 0 → ⊥
unfaulted h = omega (arith, h)

-- why bytes in memory aren't opened
pub unopened : (bytes : List ℕ) (old new : SeenFile) (e : ColumnarError) → RefusesFile old new e keys → old.told ≡ Some bytes
    → old.faults ≡ 0 → new.faults ≡ 0 → OpensBytes bytes (Err e)
unopened bytes old new OutOfMemory h told was is = inl refl
unopened bytes old new InvalidData h told was is = inr (refl, rw told at h)
unopened bytes old new ReadFault h told was is = absurd (unfaulted (rw (was, is) at h))
unopened bytes old new _ h told was is = absurd h

-- bytes that end as no file does stand for no table
pub no-file : (bytes : List ℕ) → keys bytes ≡ None → whole_file bytes ≡ Err invalid_data
unfolding parts_of
no-file bytes none = rw none refl

-- ---- the columns of a file

-- whether all columns are whole is told one by one
columns-some : (ps : List PartColumn) → is_some (for_each whole_column ps) ≡ list_all (λ c. is_some c.content) ps
columns-some [] = refl
columns-some (p ∷ ps) = by p.content (for_each whole_column ps) ∙ ap (λ b. is_some p.content && b) (columns-some ps)
  where
    own : Option Content → Option Column
    own o = option_and_then (λ content. Some (record { name = p.name; column_type = p.column_type; content = content })) o

    by : (o : Option Content) (q : Option (List Column))
        → is_some (option_and_then (λ y. option_and_then (λ ys. Some (y ∷ ys)) q) (own o)) ≡ (is_some o && is_some q)
    by None q = refl
    by (Some content) None = refl
    by (Some content) (Some ys) = refl

flags-all : (bytes : List ℕ) (k : FileKeys) (es : List Entry)
    → list_all (λ w. w) (map (is_column bytes k) es) ≡ list_all (λ (c : PartColumn). is_some c.content) (map (part_column bytes k) es)
flags-all bytes k [] = refl
flags-all bytes k (e ∷ es) = ap (λ b. is_column bytes k e && b) (flags-all bytes k es)

-- the table of a file that has these keys
table-by_keys : (bytes : List ℕ) (k : FileKeys) → keys bytes ≡ Some k
    → table_of bytes ≡ table_of_part (record { row_count = k.row_count; columns = map (part_column bytes k) k.entries })
unfolding parts_of
table-by_keys bytes k has = rw has refl

-- whether the bytes stand for one is whether all entries are columns
table-some : (bytes : List ℕ) (k : FileKeys) → keys bytes ≡ Some k
    → is_some (table_of bytes) ≡ list_all (λ w. w) (map (is_column bytes k) k.entries)
table-some bytes k has =
    ap is_some (table-by_keys bytes k has) ∙ by (for_each whole_column (map (part_column bytes k) k.entries))
    ∙ columns-some (map (part_column bytes k) k.entries) ∙ sym (flags-all bytes k k.entries)
  where
    made : List Column → Option Table
    made cs = Some (record { row_count = k.row_count; columns = cs })

    by : (o : Option (List Column)) → is_some (option_and_then made o) ≡ is_some o
    by None = refl
    by (Some cs) = refl

-- entries all of which are columns make a table
pub columns-whole : (bytes : List ℕ) (k : FileKeys) → keys bytes ≡ Some k
    → list_all (λ w. w) (map (is_column bytes k) k.entries) ≡ true → IsTableFile bytes
unfolding table_in
columns-whole bytes k has all = by (table_of bytes) (table-some bytes k has ∙ all)
  where
    by : (o : Option Table) → is_some o ≡ true → o ≡ Some (unwrap_or o no_table)
    by None h = absurd (cc h)
    by (Some t) h = refl

-- and others stand for none
pub columns-bad : (bytes : List ℕ) (k : FileKeys) → keys bytes ≡ Some k
    → list_all (λ w. w) (map (is_column bytes k) k.entries) ≡ false → whole_file bytes ≡ Err invalid_data
columns-bad bytes k has bad = by (table_of bytes) (table-some bytes k has ∙ bad)
  where
    by : (o : Option Table) → is_some o ≡ false → (or_refuse o invalid_data >>= λ table. Ok (all_alive table)) ≡ Err invalid_data
    by None h = refl
    by (Some t) h = absurd (cc h)

-- ---- open files

-- the table of a file that has one
pub file-whole : (bytes : List ℕ) → IsTableFile bytes → whole_file bytes ≡ Ok (all_alive (table_in bytes))
file-whole bytes is = ap (λ o. or_refuse o invalid_data >>= λ table. Ok (all_alive table)) is

keys-rows : (bytes : List ℕ) (k : FileKeys) (t : Table) → keys bytes ≡ Some k → table_of bytes ≡ Some t → k.row_count ≡ t.row_count
keys-rows bytes k t has is = by (for_each whole_column (map (part_column bytes k) k.entries)) (sym (table-by_keys bytes k has) ∙ is)
  where
    made : List Column → Option Table
    made cs = Some (record { row_count = k.row_count; columns = cs })

    by : (o : Option (List Column)) → option_and_then made o ≡ Some t → k.row_count ≡ t.row_count
    by None h = absurd (cc h)
    by (Some cs) h = ap (λ (t : Table). t.row_count) (same_Some (record { row_count = k.row_count; columns = cs }) t h)

-- a reader of a file that has a table
pub reader-of : (bytes : List ℕ) (r : SeenReader) → IsTableFile bytes → r.file.told ≡ Some bytes
    → IfSome r.file.told (λ b. keys b ≡ Some r.keys) → ReadsTable (table_in bytes) r
reader-of bytes r is told read = record {
  part = ap (option_and_then parts_of) told ∙ whole-part bytes (table_in bytes) is;
  rows = keys-rows bytes r.keys (table_in bytes) (rw told at read) is;
}

-- the rows of an open file are those of its table
pub as-many : (bytes : List ℕ) (r : SeenReader) (n : ℕ) → ReadsTable (table_in bytes) r → n ≡ r.keys.row_count
    → n ≡ (table_in bytes).row_count
as-many bytes r n reads counted = counted ∙ reads.rows

-- ---- answers

-- what all flags tell, where they are those of the bytes that are told
pub told-all : (told : Option (List ℕ)) (flags : List ℕ → List Bool) (xs : List Bool) (r : Bool) → r ≡ list_all (λ w. w) xs
    → IfSome told (λ bytes. xs ≡ flags bytes) → IfSome told (λ bytes. r ≡ list_all (λ w. w) (flags bytes))
told-all None flags xs r is h = tt
told-all (Some bytes) flags xs r is h = is ∙ ap (list_all (λ w. w)) h

-- bytes that aren't opened are refused as the definition has it
pub not-opened : (bytes : List ℕ) (e : ColumnarError) → OpensBytes bytes (Err e) → MayRefuse (whole_file bytes) e
not-opened bytes e (inl memory) = inl memory
not-opened bytes e (inr p) = inr (invalid_data, no-file bytes p.1, p.0)
