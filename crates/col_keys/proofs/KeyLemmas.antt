-- Keys as a reader finds them: their names, their order, their columns' lengths.
use Rattle.std.proofs.Common.{◌≡◌, ℕ, zero, suc, ◌≤◌, ◌==◌, not, Bool, true, false, cond, List, [], ◌∷◌, length, map, filter, drop, Option, Some, None, string_bytes, refl, sym, ap, arith}
use Rattle.std.specs.List.{list_all}
use Rattle.std.specs.Str.{IsUtf8, is_utf8}
use Rattle.std.specs.Ordering.{nat_cmp, is_lt, ordering_then}
use Rattle.std.specs.Cmp.Lexicographic.{slice_cmp}
use Rattle.std.proofs.lemmas.Bool.{and_from, and_left, and_parts, false_from_ne_true}
use Rattle.std.proofs.lemmas.Str.{is_utf8-from_IsUtf8, IsUtf8-from_is_utf8}
use Rattle.col_common.specs.Reading.{only_if}
use Rattle.col_model.specs.ColumnType.{type_code, is_numerical}
use Rattle.col_common.specs.Ascending.{is_before, is_ascending}
use Rattle.col_model.specs.Keys.{Key, key_bytes, is_name}
use Rattle.col_model.proofs.KeyLaws.{slice_cmp-keys}
use Rattle.col_keys.specs.declared.key_table.KeyedLength.{KeyedLength}
use Rattle.col_types.specs.Kinds.{kind_of}
use Rattle.col_keys.specs.KeyTables.{key_seen, keys_seen}

-- ---- names

-- no byte is 0
abbrev pub has_no_zero : List ℕ → Bool
has_no_zero bytes = list_all (λ b. not (b == 0)) bytes

-- a text without a zero byte is a name
pub name_of-text : (bytes : List ℕ) → has_no_zero bytes ≡ true → IsUtf8 bytes → only_if (is_name bytes) bytes ≡ Some bytes
name_of-text bytes z u = ap (λ b. only_if b bytes) (and_from _ _ (is_utf8-from_IsUtf8 bytes u) z)

-- bytes that aren't UTF-8 are no name
pub name_of-no_text : (bytes : List ℕ) → (IsUtf8 bytes → ⊥) → only_if (is_name bytes) bytes ≡ None
name_of-no_text bytes n =
    ap (λ b. only_if b bytes)
    (and_left (is_utf8 bytes) (has_no_zero bytes) (false_from_ne_true (is_utf8 bytes) (λ e. n (IsUtf8-from_is_utf8 bytes e))))

-- ---- order

-- keys with names compare by name, then by code
pub is_before-keys : (a b : Key) → is_name a.name ≡ true → is_name b.name ≡ true
    → is_before (key_bytes a) (key_bytes b)
    ≡ is_lt
    (ordering_then (slice_cmp nat_cmp a.name b.name) (nat_cmp (type_code a.column_type) (type_code b.column_type)))
is_before-keys a b p q =
    ap is_lt (slice_cmp-keys a.name b.name (type_code a.column_type) (type_code b.column_type) (and_parts _ _ p).1
    (and_parts _ _ q).1)

-- one item is left, or none
pub ascending-done : {A : Type 0} (f : A → List ℕ) (xs : List A) (i : ℕ) (total : Bool) → length xs ≤ suc i
    → is_ascending (map f (drop i xs)) ≡ total → total ≡ true
ascending-done f [] zero total h so_far = sym so_far
ascending-done f [] (suc i) total h so_far = sym so_far
ascending-done f (x ∷ []) zero total h so_far = sym so_far
ascending-done f (x ∷ []) (suc zero) total h so_far = sym so_far
ascending-done f (x ∷ []) (suc (suc i)) total h so_far = sym so_far
ascending-done f (x ∷ y ∷ xs) zero total h so_far = absurd (omega arith)
ascending-done f (x ∷ y ∷ xs) (suc i) total h so_far = ascending-done f (y ∷ xs) i total (omega arith) so_far

-- keys that were read have the bytes of the keys that they are seen as
pub key_texts : (ks : List KeyedLength) → map (λ k. key_bytes (key_seen k.key)) ks ≡ map key_bytes (keys_seen ks)
key_texts [] = refl
key_texts (k ∷ ks) = ap (λ r. key_bytes (key_seen k.key) ∷ r) (key_texts ks)

-- whether lists ascend behind a last one
abbrev pub ascends_from : Option (List ℕ) → List (List ℕ) → Bool
ascends_from None xs = is_ascending xs
ascends_from (Some p) xs = is_ascending (p ∷ xs)

-- a column of numbers
abbrev pub is_of_number : KeyedLength → Bool
is_of_number k = is_numerical (kind_of k.key.column_type)

-- the names of the columns of numbers
abbrev pub names_of : List KeyedLength → List (List ℕ)
names_of ks = map (λ k. string_bytes k.key.name) (filter is_of_number ks)

kept : (b : Bool) (k : KeyedLength) (ks : List KeyedLength)
    → names_of ks ≡ map (λ k. k.name) (filter (λ k. is_numerical k.column_type) (keys_seen ks))
    → map (λ k. string_bytes k.key.name) (cond b (k ∷ filter is_of_number ks) (filter is_of_number ks))
    ≡ map (λ k. k.name) (cond b (key_seen k.key ∷ filter (λ k. is_numerical k.column_type) (keys_seen ks))
    (filter (λ k. is_numerical k.column_type) (keys_seen ks)))
kept true k ks e = ap (λ r. string_bytes k.key.name ∷ r) e
kept false k ks e = e

-- the names of the columns of numbers are those of the keys with a type of numbers
pub numerical_names : (ks : List KeyedLength) → names_of ks ≡ map (λ k. k.name) (filter (λ k. is_numerical k.column_type) (keys_seen ks))
numerical_names [] = refl
numerical_names (k ∷ ks) = kept (is_of_number k) k ks (numerical_names ks)
