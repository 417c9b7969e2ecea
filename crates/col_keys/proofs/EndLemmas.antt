-- The end of a file that was written column by column.
use Rattle.std.proofs.Common.{◌≡◌, ℕ, ◌+◌, ◌^◌, ◌<◌, ◌≤◌, true, List, [], ◌∷◌, ◌++◌, length, map, flat_map, Result, Ok, Err, OnOk, Some, refl, sym, ap, ap₂, ◌∙◌, append_assoc, length-append, arith}
use Rattle.std.specs.List.{AllByRecursion}
use Rattle.std.proofs.lemmas.List.{length-map}
use Rattle.std.proofs.lemmas.List.Concat.{flat_map-cons}
use Rattle.col_common.specs.Outside.{SeenSink}
use Rattle.col_common.specs.Serializing.{Serializes}
use Rattle.col_common.specs.VInt.{vint_bytes}
use Rattle.col_common.specs.declared.error.ColumnarError.{ColumnarError}
use Rattle.col_common.proofs.SerializingLemmas.{serializes-as, serializes-then}
use Rattle.col_model.specs.ColumnType.{type_code}
use Rattle.col_model.specs.Keys.{Key, key_bytes, is_name, are_keys, keys}
use Rattle.col_model.specs.Spelling.{keyed_length_bytes, keyed_lengths, key_table_bytes, footer_bytes, file_bytes}
use Rattle.col_model.specs.U64List.{joined_lists}
use Rattle.col_model.proofs.FileLaws.{IsSpelled, keys-parts, keys_of-keyed_lengths, parts_of-file_bytes, total_length-keyed_lengths}
use Rattle.col_keys.specs.Put.{PutColumns, end_bytes, HavePut, AreKeys, keys_put, HasColumns}

-- ---- answers

pub then-ok : {A B : Type 0} (r : Result (Unit {0}) ColumnarError) → OnOk r A → (A → B) → OnOk r B
then-ok (Ok done) x f = f x
then-ok (Err e) x f = tt

-- ---- one key

keyed-regroup : (v name end w : List ℕ) (m : ℕ) → vint_bytes m ≡ v → length (name ++ end) ≡ m
    → ((v ++ name) ++ end) ++ w ≡ vint_bytes (length (name ++ end)) ++ ((name ++ end) ++ w)
keyed-regroup v name end w m e h =
    ap (λ r. r ++ w) (append_assoc v name end) ∙ append_assoc v (name ++ end) w
    ∙ ap (λ r. r ++ ((name ++ end) ++ w)) (sym e ∙ ap vint_bytes (sym h))

-- a key's length, name, zero byte, code and column's length are the bytes of the key in the table
pub keyed_length-parts : (key : Key) (text : List ℕ) (code n : ℕ) → text ≡ key.name
    → code ≡ type_code key.column_type
    → ((vint_bytes (length key.name + 2) ++ text) ++ (0 ∷ code ∷ [])) ++ vint_bytes n ≡ keyed_length_bytes (key, n)
unfolding keyed_length_bytes
keyed_length-parts key text code n e f =
    ap₂ (λ t c. ((vint_bytes (length key.name + 2) ++ t) ++ (0 ∷ c ∷ [])) ++ vint_bytes n) e f
    ∙ keyed-regroup (vint_bytes (length key.name + 2)) key.name (0 ∷ type_code key.column_type ∷ []) (vint_bytes n)
    (length key.name + 2) refl (length-append key.name (0 ∷ type_code key.column_type ∷ []))

-- ---- the end

-- the count, the keys and the footer are the end of the file
pub end-parts : (columns : PutColumns) (n table_len : ℕ) (entries : List ℕ) → entries ≡ columns.table
    → table_len ≡ length (vint_bytes columns.count) + length entries
    → (vint_bytes columns.count ++ entries) ++ footer_bytes table_len n ≡ end_bytes columns n
end-parts columns n table_len entries e f =
    ap₂ (λ r m. (vint_bytes columns.count ++ r) ++ footer_bytes m n) e (f
    ∙ sym (length-append (vint_bytes columns.count) entries)
    ∙ ap (λ r. length (vint_bytes columns.count ++ r)) e)

-- a key table whose length was counted below 2 ^ 64 is shorter than that
pub end-short : (columns : PutColumns) (table_len : ℕ) (entries : List ℕ) → entries ≡ columns.table
    → table_len ≡ length (vint_bytes columns.count) + length entries → table_len < 2 ^ 64
    → length (vint_bytes columns.count ++ columns.table) < 2 ^ 64
end-short columns table_len entries e f h =
    let long : length (vint_bytes columns.count ++ columns.table) ≡ table_len =
    ap (λ r. length (vint_bytes columns.count ++ r)) (sym e) ∙ length-append (vint_bytes columns.count) entries
    ∙ sym f in
    rw long h

-- ---- the file

pub table-put : (start now : SeenSink) (columns : PutColumns) (ps : List (Key × List ℕ)) → HavePut start now columns ps
    → vint_bytes columns.count ++ columns.table ≡ key_table_bytes (keyed_lengths ps)
unfolding key_table_bytes
table-put start now columns ps have =
    ap₂ (λ m r. vint_bytes m ++ r) (have.count ∙ sym (length-map {B = Key × ℕ} ps (λ p. (p.0, length p.1)))) have.table

file-parts : (n : ℕ) (ps : List (Key × List ℕ)) (table : List ℕ) → table ≡ key_table_bytes (keyed_lengths ps)
    → joined_lists (map (λ p. p.1) ps) ++ (table ++ footer_bytes (length table) n) ≡ file_bytes n ps
unfolding file_bytes
file-parts n ps table e =
    sym (append_assoc (joined_lists (map (λ p. p.1) ps)) table (footer_bytes (length table) n))
    ∙ ap (λ t. (joined_lists (map (λ p. p.1) ps) ++ t) ++ footer_bytes (length t) n) e

-- columns with their end behind them are the file
pub file-put : (start a b : SeenSink) (columns : PutColumns) (ps : List (Key × List ℕ)) (n : ℕ)
    (result : Result (Unit {0}) ColumnarError) → HavePut start a columns ps
    → Serializes a b result (end_bytes columns n) → Serializes start b result (file_bytes n ps)
file-put start a b columns ps n result have h =
    serializes-as start b result _ _ (serializes-then start a b tt result (joined_lists (map (λ p. p.1) ps))
    (end_bytes columns n) have.written h)
    (file-parts n ps (vint_bytes columns.count ++ columns.table) (table-put start a columns ps have))

-- ---- its keys

key-short : (p : Key × ℕ) → length (key_bytes p.0) ≤ length (keyed_length_bytes p)
unfolding keyed_length_bytes
key-short p =
    let a = length-append (vint_bytes (length (key_bytes p.0))) (key_bytes p.0 ++ vint_bytes p.1) in
    let b = length-append (key_bytes p.0) (vint_bytes p.1) in
    omega (arith, a, b)

key-some : (k : Key) → 1 ≤ length (key_bytes k)
key-some k = let a = length-append k.name (0 ∷ type_code k.column_type ∷ []) in omega (arith, a)

entries-longer : (p : Key × ℕ) (ps : List (Key × ℕ))
    → length (flat_map keyed_length_bytes (p ∷ ps))
    ≡ length (keyed_length_bytes p) + length (flat_map keyed_length_bytes ps)
entries-longer p ps =
    ap length (flat_map-cons keyed_length_bytes p ps)
    ∙ length-append (keyed_length_bytes p) (flat_map keyed_length_bytes ps)

few-entries : (ps : List (Key × ℕ)) → length ps ≤ length (flat_map keyed_length_bytes ps)
few-entries [] = omega arith
few-entries (p ∷ ps) = omega (arith, few-entries ps, entries-longer p ps, key-short p, key-some p.0)

spelled : (ps : List (Key × List ℕ)) → AllByRecursion (λ key. is_name key.name ≡ true) (map (λ p. p.0) ps)
    → AllByRecursion (λ p. length p.1 < 2 ^ 64) ps
    → length (flat_map keyed_length_bytes (keyed_lengths ps)) < 2 ^ 64 → AllByRecursion IsSpelled (keyed_lengths ps)
spelled [] names fit short = tt
spelled (p ∷ ps) names fit short =
    let q : Key × ℕ = (p.0, length p.1) in
    let longer = entries-longer q (keyed_lengths ps) in
    let within = key-short q in (
      record { name = names.0; key_fits = omega (arith, longer, within, short); size_fits = fit.0 },
      spelled ps names.1 fit.1 (omega (arith, longer, short)),
    )

table-longer : (ps : List (Key × ℕ)) → length (flat_map keyed_length_bytes ps) ≤ length (key_table_bytes ps)
unfolding key_table_bytes
table-longer ps = let a = length-append (vint_bytes (length ps)) (flat_map keyed_length_bytes ps) in omega (arith, a)

entries-put : (ps : List (Key × List ℕ)) (n : ℕ) → AllByRecursion IsSpelled (keyed_lengths ps)
    → length (keyed_lengths ps) < 2 ^ 64 → are_keys (map (λ p. p.0) ps) ≡ true
    → length (key_table_bytes (keyed_lengths ps)) < 2 ^ 64 → n < 2 ^ 32
    → keys (file_bytes n ps) ≡ Some (keys_put n ps)
unfolding file_bytes
entries-put ps n all few ascend short h =
    keys-parts (joined_lists (map (λ p. p.1) ps)) (keyed_lengths ps) n all few
    (rw (keys_of-keyed_lengths ps) ascend) short h (total_length-keyed_lengths ps)

-- the file has just the columns that were put
pub columns-put : (ps : List (Key × List ℕ)) (n : ℕ) → AllByRecursion (λ p. length p.1 < 2 ^ 64) ps
    → AreKeys (map (λ p. p.0) ps) → length (key_table_bytes (keyed_lengths ps)) < 2 ^ 64 → n < 2 ^ 32
    → HasColumns (file_bytes n ps) n ps
columns-put ps n fit are short h =
    let longer = table-longer (keyed_lengths ps) in
    let entries : length (flat_map keyed_length_bytes (keyed_lengths ps)) < 2 ^ 64 = omega (arith, longer, short) in
    let some = few-entries (keyed_lengths ps) in
    let few : length (keyed_lengths ps) < 2 ^ 64 = omega (arith, some, entries) in
    let all = spelled ps are.names fit entries in
    record {
      entries = entries-put ps n all few are.ascend short h;
      columns = parts_of-file_bytes n ps all (rw (← length-map {B = Key × ℕ} ps (λ p. (p.0, length p.1))) few) are.ascend short h;
    }

-- columns that were put, with the end behind them, are a file that has these columns
pub columns-have_put : (start now : SeenSink) (columns : PutColumns) (ps : List (Key × List ℕ)) (n : ℕ)
    → HavePut start now columns ps → AreKeys (map (λ p. p.0) ps)
    → length (vint_bytes columns.count ++ columns.table) < 2 ^ 64 → n < 2 ^ 32 → HasColumns (file_bytes n ps) n ps
columns-have_put start now columns ps n have are short h =
    columns-put ps n have.fit are (rw (sym (table-put start now columns ps have)) short) h
