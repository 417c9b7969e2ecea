-- A file is read back from its parts, whichever bytes its columns have.
use Rattle.std.proofs.Common.{◌≡◌, ℕ, ◌+◌, ◌-◌, ◌^◌, ◌<◌, List, [], ◌∷◌, ◌++◌, length, map, flat_map, sum, slice_range, Some, true, refl, sym, ◌∙◌, ap, ap₂, arith, append_assoc, length-append, append-nil}
use Rattle.std.specs.List.{AllByRecursion, list_all}
use Rattle.std.specs.Int.{w32, w64, to_le_bytes}
use Rattle.std.proofs.lemmas.Bool.{eq-eqb, and_from}
use Rattle.std.proofs.lemmas.List.{length-map}
use Rattle.std.proofs.lemmas.List.Sums.{sum_by-cons}
use Rattle.col_common.specs.Reading.{items, le_number}
use Rattle.std.proofs.Math.Seq.{take-append_seam, drop-append_seam}
use Rattle.col_model.specs.U64List.{joined_lists}
use Rattle.col_model.specs.Dictionary.{cut}
use Rattle.col_model.specs.Index.{Counts, counts}
use Rattle.col_model.specs.ColumnType.{ColumnType, type_code, type_of_code, has_terms}
use Rattle.col_model.specs.ColumnType as types
use Rattle.col_model.specs.Column.{column, number_rows, stored_numbers, is_stored}
use Rattle.col_model.specs.Keys.{Key, key_bytes, is_name, key_of, keyed_length, key_table, are_keys, entries_from, total_length, FileKeys, file_footer, keys}
use Rattle.col_model.specs.Version.{current_version, magic, version_bytes}
use Rattle.col_model.specs.File.{PartColumn, part_column, parts_of}
use Rattle.col_model.specs.Spelling.{column_bytes, keyed_length_bytes, key_table_bytes, footer_bytes, keyed_lengths, file_bytes}
use Rattle.col_common.proofs.VIntLemmas.{vint-vint_bytes}
use Rattle.col_model.proofs.ReadingLaws.{front-append, back-append, le_number-w64, le_number-w32, parts_by_first-w64, items-flat_map}

-- ---- columns

-- index and values read give the rows
pub number_rows-column_bytes :
    (index values : List ℕ) (t : ColumnType) (version n : ℕ) (c : Counts) (numbers : List ℕ) → length index < 2 ^ 64
    → counts index version n ≡ Some c → stored_numbers t values ≡ Some numbers → sum c.of_rows ≡ length numbers
    → list_all (is_stored t) numbers ≡ true
    → number_rows (column_bytes index values) t version n ≡ Some (c, cut c.of_rows numbers)
unfolding number_rows column_bytes
number_rows-column_bytes index values t version n c numbers h i v s all =
    rw (parts_by_first-w64 index values h, i, v, and_from _ _ (eq-eqb (sum c.of_rows) (length numbers) s) all) refl

-- ---- keys

type_of_code-type_code : (t : ColumnType) → type_of_code (type_code t) ≡ Some t
type_of_code-type_code types.i64 = refl
type_of_code-type_code types.u64 = refl
type_of_code-type_code types.bytes = refl
type_of_code-type_code types.str = refl
type_of_code-type_code types.bool = refl
type_of_code-type_code types.ip = refl
type_of_code-type_code types.datetime = refl

pub key_of-key_bytes : (k : Key) → is_name k.name ≡ true → key_of (key_bytes k) ≡ Some k
unfolding key_of
key_of-key_bytes k h =
    rw (
      back-append 2 k.name (0 ∷ type_code k.column_type ∷ []) refl,
      type_of_code-type_code k.column_type,
      and_from _ true h refl,
    ) refl

-- a key with its column's length that has a spelling
pub record IsSpelled (p : Key × ℕ) : Type 0 where
  pub name : is_name p.0.name ≡ true
  pub key_fits : length (key_bytes p.0) < 2 ^ 64
  pub size_fits : p.1 < 2 ^ 64

pub keyed_length-keyed_length_bytes : (p : Key × ℕ) (rest : List ℕ) → IsSpelled p
    → keyed_length (keyed_length_bytes p ++ rest) ≡ Some (p, rest)
unfolding keyed_length keyed_length_bytes
keyed_length-keyed_length_bytes p rest h =
    rw (
      append_assoc,
      vint-vint_bytes (length (key_bytes p.0)) _ h.key_fits,
      append_assoc,
      front-append (length (key_bytes p.0)) (key_bytes p.0) _ refl,
      key_of-key_bytes p.0 h.name,
      vint-vint_bytes p.1 rest h.size_fits,
    ) refl

pub key_table-key_table_bytes : (ps : List (Key × ℕ)) → AllByRecursion IsSpelled ps → length ps < 2 ^ 64
    → are_keys (map (λ p. p.0) ps) ≡ true → key_table (key_table_bytes ps) ≡ Some ps
unfolding key_table key_table_bytes
key_table-key_table_bytes ps all h e =
    let read : items keyed_length (length ps) (flat_map keyed_length_bytes ps) ≡ Some (ps, []) =
    ap (items keyed_length (length ps)) (sym (append-nil (flat_map keyed_length_bytes ps)))
    ∙ items-flat_map keyed_length keyed_length_bytes IsSpelled keyed_length-keyed_length_bytes ps [] all in
    rw (vint-vint_bytes (length ps) (flat_map keyed_length_bytes ps) h, read, e) refl

file_footer-parts : (a b c : List ℕ) (table_length row_count : ℕ) → le_number w64 a ≡ Some (table_length, b)
    → le_number w32 b ≡ Some (row_count, c) → le_number w32 c ≡ Some (current_version, magic)
    → file_footer a ≡ Some (record { table_length = table_length; row_count = row_count; version = current_version })
unfolding file_footer
file_footer-parts a b c table_length row_count x y z = rw (x, y, z) refl

pub file_footer-footer_bytes : (table_length row_count : ℕ) → table_length < 2 ^ 64 → row_count < 2 ^ 32
    → file_footer (footer_bytes table_length row_count)
    ≡ Some (record { table_length = table_length; row_count = row_count; version = current_version })
unfolding footer_bytes
file_footer-footer_bytes table_length row_count h k =
    file_footer-parts _ (to_le_bytes w32 row_count ++ version_bytes) version_bytes table_length row_count
    (le_number-w64 table_length _ h) (le_number-w32 row_count _ k) (le_number-w32 current_version magic (omega arith))

length-footer_bytes : (table_length row_count : ℕ) → 20 ≡ length (footer_bytes table_length row_count)
unfolding footer_bytes
length-footer_bytes table_length row_count = refl

-- the keys of body, table and footer
pub keys-parts : (body : List ℕ) (ps : List (Key × ℕ)) (n : ℕ) → AllByRecursion IsSpelled ps → length ps < 2 ^ 64
    → are_keys (map (λ p. p.0) ps) ≡ true → length (key_table_bytes ps) < 2 ^ 64 → n < 2 ^ 32
    → total_length ps ≡ length body
    → keys ((body ++ key_table_bytes ps) ++ footer_bytes (length (key_table_bytes ps)) n)
    ≡ Some (record { row_count = n; version = current_version; entries = entries_from 0 ps })
unfolding keys
keys-parts body ps n all h e t k s =
    rw (
      back-append 20 (body ++ key_table_bytes ps) (footer_bytes (length (key_table_bytes ps)) n)
          (length-footer_bytes (length (key_table_bytes ps)) n),
      file_footer-footer_bytes (length (key_table_bytes ps)) n t k,
      back-append (length (key_table_bytes ps)) body (key_table_bytes ps) refl,
      key_table-key_table_bytes ps all h e,
      eq-eqb (total_length ps) (length body) s,
    ) refl

-- ---- files

-- the lengths that are listed of columns sum up to the length of their bytes joined
pub total_length-keyed_lengths : (ps : List (Key × List ℕ)) → total_length (keyed_lengths ps) ≡ length (joined_lists (map (λ p. p.1) ps))
total_length-keyed_lengths [] = refl
total_length-keyed_lengths (p ∷ ps) =
    sum_by-cons (λ (q : Key × ℕ). q.1) (p.0, length p.1) (keyed_lengths ps)
    ∙ ap (λ m. length p.1 + m) (total_length-keyed_lengths ps)
    ∙ sym (length-append p.1 (joined_lists (map (λ p. p.1) ps)))

pub slice-middle : (before part rest : List ℕ) → slice_range (before ++ (part ++ rest)) (length before) (length before + length part) ≡ part
slice-middle before part rest =
    let m : length before + length part - length before ≡ length part = omega arith in rw
    (drop-append_seam before (part ++ rest), m) (take-append_seam part rest)

-- a key with its column's bytes, as a part's column
abbrev pub part_column_of : ℕ → Key × List ℕ → PartColumn
part_column_of n p =
    record { name = p.0.name; column_type = p.0.column_type; content = column p.1 p.0.column_type current_version n }

part_columns-from : (before : List ℕ) (ps : List (Key × List ℕ)) (tail : List ℕ) (k : FileKeys) → k.version ≡ current_version
    → map (part_column (before ++ (joined_lists (map (λ p. p.1) ps) ++ tail)) k)
    (entries_from (length before) (keyed_lengths ps)) ≡ map (part_column_of k.row_count) ps
part_columns-from before [] tail k v = refl
part_columns-from before (p ∷ ps) tail k v =
    let rest = joined_lists (map (λ p. p.1) ps) in
    let whole : before ++ ((p.1 ++ rest) ++ tail) ≡ (before ++ p.1) ++ (rest ++ tail) = rw (append_assoc, append_assoc) refl in
    let cells : slice_range (before ++ ((p.1 ++ rest) ++ tail)) (length before) (length before + length p.1) ≡ p.1 =
    rw append_assoc (slice-middle before p.1 (rest ++ tail)) in
    ap₂ (λ x y. x ∷ y)
    (rw (cells, v) refl)
    (ap (λ b. map (part_column b k) (entries_from (length before + length p.1) (keyed_lengths ps))) whole
    ∙ ap (λ m. map (part_column ((before ++ p.1) ++ (rest ++ tail)) k) (entries_from m (keyed_lengths ps))) (sym (length-append before p.1))
    ∙ part_columns-from (before ++ p.1) ps tail k v)

-- the lengths that are listed of columns have the columns' keys
pub keys_of-keyed_lengths : (ps : List (Key × List ℕ)) → map (λ p. p.0) (keyed_lengths ps) ≡ map (λ p. p.0) ps
keys_of-keyed_lengths [] = refl
keys_of-keyed_lengths (p ∷ ps) = ap (λ r. p.0 ∷ r) (keys_of-keyed_lengths ps)

-- the part of a file whose keys are known
pub parts_of-keys : (bytes : List ℕ) (k : FileKeys) → keys bytes ≡ Some k
    → parts_of bytes ≡ Some (record { row_count = k.row_count; columns = map (part_column bytes k) k.entries })
unfolding parts_of
parts_of-keys bytes k e = rw e refl

-- A file has its row count, and each column is what its bytes stand for.
pub parts_of-file_bytes : (n : ℕ) (ps : List (Key × List ℕ)) → AllByRecursion IsSpelled (keyed_lengths ps)
    → length ps < 2 ^ 64 → are_keys (map (λ p. p.0) ps) ≡ true
    → length (key_table_bytes (keyed_lengths ps)) < 2 ^ 64 → n < 2 ^ 32
    → parts_of (file_bytes n ps) ≡ Some (record { row_count = n; columns = map (part_column_of n) ps })
unfolding file_bytes
parts_of-file_bytes n ps all h e t k =
    let body = joined_lists (map (λ p. p.1) ps) in
    let table = key_table_bytes (keyed_lengths ps) in
    let footer = footer_bytes (length table) n in
    let found : FileKeys = record { row_count = n; version = current_version; entries = entries_from 0 (keyed_lengths ps) } in
    let named : are_keys (map (λ p. p.0) (keyed_lengths ps)) ≡ true = rw (keys_of-keyed_lengths ps) e in
    let read : keys ((body ++ table) ++ footer) ≡ Some found =
    keys-parts body (keyed_lengths ps) n all (rw (length-map {B = Key × ℕ} ps (λ p. (p.0, length p.1))) h) named
    t k (total_length-keyed_lengths ps) in
    parts_of-keys ((body ++ table) ++ footer) found read
    ∙ ap (λ cs. Some (record { row_count = n; columns = cs })) (rw append_assoc (part_columns-from [] ps (table ++ footer) found refl))
