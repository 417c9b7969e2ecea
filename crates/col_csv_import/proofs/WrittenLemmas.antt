-- What is written of columns that were filled.
use Rattle.std.proofs.Common.{◌≡◌, ◌∙◌, ◌==◌, ℕ, Bool, true, false, cond, not, List, [], ◌∷◌, map, filter, length, Some, None, Ok, refl, sym, ap, ap₂, arith}
use Rattle.std.specs.Prelude.{Option, Result}
use Rattle.std.specs.List.{list_all, list_any, AllByRecursion}
use Rattle.std.specs.Str.{is_utf8}
use Rattle.std.proofs.lemmas.Bool.{and_parts, false≢true, or_from}
use Rattle.col_model.specs.Category.{Slot, category_of}
use Rattle.col_model.specs.ColumnType.{ColumnType}
use Rattle.col_model.specs.ColumnType as types
use Rattle.col_model.specs.Keys.{Key, is_name}
use Rattle.col_model.specs.Limits.{is_too_large, tightest}
use Rattle.col_model.specs.Refusal.{Refusal, ◌>>=◌, refuse_if, or_refuse, each_ok, doc_out_of_range, numerical_conflict, tie_breaker_start, too_large}
use Rattle.col_model.specs.Sound.{IsSoundColumn}
use Rattle.col_model.specs.Table.{Cell, Content, Column, Table}
use Rattle.col_model.specs.Written.{Entry, Record, entry_content, entry_type, has_zero, is_past_docs, is_past_ties, texts_of, written, written_column}
use Rattle.col_csv.specs.CsvTable.{flat_content}
use Rattle.col_csv_import.specs.Columns.{FilledColumn, column_entry, no_values, slotted}
use Rattle.col_csv_import.proofs.ColumnLemmas.{AreColumnsOf}
use Rattle.col_csv_import.proofs.KeyLemmas.{are_named, key_slot}
use Rattle.col_csv_import.proofs.RecordLemmas.{cells-back, none-past, row_records, rows-back}
use Rattle.col_csv_import.proofs.RowLemmas.{with_found}

-- the type of an entry is the one that is asked for
entry-typed : (t : ColumnType) (rs : List Record) → entry_type (category_of t) (column_entry t rs) ≡ Some t
entry-typed types.i64 rs = refl
entry-typed types.u64 rs = refl
entry-typed types.bytes rs = refl
entry-typed types.str rs = refl
entry-typed types.bool rs = refl
entry-typed types.ip rs = refl
entry-typed types.datetime rs = refl

-- what stands in the column of an entry
content-is : (t : ColumnType) (found : List (List Cell)) (n : ℕ) → length found ≡ n
    → entry_content (column_entry t (row_records t 0 found)) n None ≡ flat_content found
content-is t found n long =
    let rows = ap (λ m. entry_content (column_entry t (row_records t 0 found)) m None) (sym long) in
    let made : List (List Cell) → List Cell → Content = λ rows cells. record
    { cardinality = tightest rows; terms = texts_of cells; rows = rows } in
    rows ∙ ap₂ made (rows-back [] t 0 found refl) (cells-back t 0 found)

-- the column that is written of an entry
column-is : (n : ℕ) (k : Key) (found : List (List Cell)) → length found ≡ n → is_too_large k.column_type (flat_content found) ≡ false
    → written_column n None (slotted (with_found 0 (no_values k) found))
    ≡ Ok (record { name = k.name; column_type = k.column_type; content = flat_content found })
column-is n k found long small =
    let t = k.column_type in
    let last : ColumnType → Content → Bool → Result Column Refusal =
    λ t content b. refuse_if b too_large >>= λ _. Ok (record { name = k.name; column_type = t; content = content }) in
    let make : Option ColumnType → Content → Result Column Refusal =
    λ o content. or_refuse o numerical_conflict >>= λ t. refuse_if (is_past_ties n None) tie_breaker_start
    >>= λ _. last t content (is_too_large t content) in
    ap₂ make (entry-typed t (row_records t 0 found)) (content-is t found n long) ∙ ap (last t (flat_content found)) small

-- each column is that of the definition, where this is sound
each-is : (n : ℕ) (ks : List Key) (cs : List FilledColumn) (xs : List Column) → AreColumnsOf n ks cs xs
    → AllByRecursion (IsSoundColumn n) xs → each_ok (written_column n None) (map slotted cs) ≡ Ok xs
unfolding AreColumnsOf
each-is n [] [] [] are sound = refl
each-is n [] [] (x ∷ xs) are sound = absurd are
each-is n [] (c ∷ cs) xs are sound = absurd are
each-is n (k ∷ ks) [] xs are sound = absurd are
each-is n (k ∷ ks) (c ∷ cs) [] are sound = absurd are
each-is n (k ∷ ks) (c ∷ cs) (x ∷ xs) (is, are) (own, sound) =
    let small : is_too_large k.column_type (flat_content is.found) ≡ false =
    ap (λ (x : Column). is_too_large x.column_type x.content) (sym is.is) ∙ own.limits in
    let here : written_column n None (slotted c) ≡ Ok x =
    ap (λ c. written_column n None (slotted c)) is.filled ∙ column-is n k is.found is.long small ∙ ap Ok (sym is.is) in
    ap₂ (λ r s. r >>= λ y. s >>= λ ys. Ok (y ∷ ys)) here (each-is n ks cs xs are sound)

-- no record stands behind the last row
none-behind : (n : ℕ) (ks : List Key) (cs : List FilledColumn) (xs : List Column) → AreColumnsOf n ks cs xs
    → list_any (is_past_docs n) (map slotted cs) ≡ false
unfolding AreColumnsOf
none-behind n [] [] xs are = refl
none-behind n [] (c ∷ cs) xs are = absurd are
none-behind n (k ∷ ks) [] xs are = absurd are
none-behind n (k ∷ ks) (c ∷ cs) [] are = absurd are
none-behind n (k ∷ ks) (c ∷ cs) (x ∷ xs) (is, are) =
    or_from _ _
    (ap (λ c. is_past_docs n (slotted c)) is.filled ∙ none-past k.column_type 0 n is.found (omega (arith, is.long)))
    (none-behind n ks cs xs are)

-- a name has no zero byte
no-zero : (name : List ℕ) → is_name name ≡ true → has_zero name ≡ false
no-zero name e = by name (and_parts (is_utf8 name) (list_all (λ b. not (b == 0)) name) e).1
  where
    by : (name : List ℕ) → list_all (λ b. not (b == 0)) name ≡ true → list_any (λ b. b == 0) name ≡ false
    by [] e = refl
    by (b ∷ name) e =
        let parts = and_parts (not (b == 0)) (list_all (λ b. not (b == 0)) name) e in
        or_from (b == 0) _ (at (b == 0) parts.0) (by name parts.1)
      where
        at : (z : Bool) → not z ≡ true → z ≡ false
        at true e = absurd (false≢true e)
        at false e = refl

-- the slots of the columns are those of their keys
pub slots-are : (n : ℕ) (ks : List Key) (cs : List FilledColumn) (xs : List Column) → AreColumnsOf n ks cs xs
    → map (λ p. p.0) (map slotted cs) ≡ map key_slot ks
unfolding AreColumnsOf
slots-are n [] [] xs are = refl
slots-are n [] (c ∷ cs) xs are = absurd are
slots-are n (k ∷ ks) [] xs are = absurd are
slots-are n (k ∷ ks) (c ∷ cs) [] are = absurd are
slots-are n (k ∷ ks) (c ∷ cs) (x ∷ xs) (is, are) =
    ap₂ (λ s ss. s ∷ ss) (ap (λ c. key_slot c.key) is.filled) (slots-are n ks cs xs are)

-- each column is written
all-named : (n : ℕ) (ks : List Key) (cs : List FilledColumn) (xs : List Column) → AreColumnsOf n ks cs xs → are_named ks ≡ true
    → filter (λ p. not (has_zero p.0.name)) (map slotted cs) ≡ map slotted cs
unfolding AreColumnsOf
all-named n [] [] xs are named = refl
all-named n [] (c ∷ cs) xs are named = absurd are
all-named n (k ∷ ks) [] xs are named = absurd are
all-named n (k ∷ ks) (c ∷ cs) [] are named = absurd are
all-named n (k ∷ ks) (c ∷ cs) (x ∷ xs) (is, are) named =
    let parts = and_parts (is_name k.name) (are_named ks) named in
    let others = filter (λ (p : Slot × Entry). not (has_zero p.0.name)) (map slotted cs) in
    let own : has_zero c.key.name ≡ false = ap (λ c. has_zero c.key.name) is.filled ∙ no-zero k.name parts.0 in
    ap (λ b. cond (not b) (slotted c ∷ others) others) own ∙ ap (λ ps. slotted c ∷ ps) (all-named n ks cs xs are parts.1)

-- the table of sound columns of the definition is written
pub table-written : (n : ℕ) (ks : List Key) (cs : List FilledColumn) (xs : List Column) → AreColumnsOf n ks cs xs
    → are_named ks ≡ true → AllByRecursion (IsSoundColumn n) xs
    → written (map slotted cs) n None ≡ Ok (record { row_count = n; columns = xs })
unfolding written
table-written n ks cs xs are named sound =
    let make : Result (List Column) Refusal → Result Table Refusal =
    λ r. r >>= λ columns. Ok (record { row_count = n; columns = columns }) in
    ap (λ b. refuse_if b doc_out_of_range
    >>= λ _. make (each_ok (written_column n None) (filter (λ p. not (has_zero p.0.name)) (map slotted cs))))
    (none-behind n ks cs xs are)
    ∙ ap (λ w. make (each_ok (written_column n None) w)) (all-named n ks cs xs are named)
    ∙ ap make (each-is n ks cs xs are sound)
