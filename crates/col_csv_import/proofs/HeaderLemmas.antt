-- What the first record says.
use Rattle.std.proofs.Common.{◌≡◌, ◌+◌, ◌==◌, ◌&&◌, ℕ, Bool, true, false, List, [], ◌∷◌, map, take, drop, codes, bytes_eq, Some, None, refl, sym, ap₂, subst, arith}
use Rattle.std.specs.Prelude.{Option, option_map, position}
use Rattle.std.specs.List.{AllByRecursion}
use Rattle.std.proofs.lemmas.Option.{same_Some}
use Rattle.col_common.specs.Reading.{◌>>=◌, only_if}
use Rattle.col_model.specs.ColumnType.{ColumnType}
use Rattle.col_model.specs.File.{for_each}
use Rattle.col_model.specs.Keys.{Key, are_keys, is_name}
use Rattle.col_program.specs.Values.{type_named}
use Rattle.col_csv.specs.Csv.{colon}
use Rattle.col_csv.specs.CsvTable.{key_of_heading, keys_of_header}
use Rattle.col_csv_import.specs.Columns.{FilledColumn, HasRoom, no_values}
use Rattle.col_csv_import.proofs.EachLemmas.{made-parts}
use Rattle.col_csv_import.proofs.KeyLemmas.{are_named}

-- a heading that spells a key has a name
heading-named : (s : List ℕ) (k : Key) → key_of_heading s ≡ Some k → is_name k.name ≡ true
heading-named s k e = at (position (λ b. b == colon) s) e
  where
    test : (i : ℕ) (t : ColumnType) (b : Bool) → is_name (drop (i + 1) s) ≡ b
        → only_if b (record { name = drop (i + 1) s; column_type = t }) ≡ Some k → is_name k.name ≡ true
    test i t true is e = subst (λ (k : Key). is_name k.name ≡ true) (same_Some (record { name = drop (i + 1) s; column_type = t }) k e) is
    test i t false is e = absurd (cc e)

    typed : (i : ℕ) (o : Option ColumnType)
        → (o >>= λ t. only_if (is_name (drop (i + 1) s)) (record { name = drop (i + 1) s; column_type = t })) ≡ Some k
        → is_name k.name ≡ true
    typed i None e = absurd (cc e)
    typed i (Some t) e = test i t (is_name (drop (i + 1) s)) refl e

    at : (o : Option ℕ) → (o >>= λ i. type_named (take i s) >>= λ t.
        only_if (is_name (drop (i + 1) s)) (record { name = drop (i + 1) s; column_type = t })) ≡ Some k → is_name k.name ≡ true
    at None e = absurd (cc e)
    at (Some i) e = typed i (type_named (take i s)) e

-- the keys of headings have names
pub headings-named : (ss : List (List ℕ)) (ks : List Key) → for_each key_of_heading ss ≡ Some ks → are_named ks ≡ true
headings-named [] ks e = subst (λ ks. are_named ks ≡ true) (same_Some [] ks e) refl
headings-named (s ∷ ss) ks e =
    let (k, rest, own, more, is) = made-parts key_of_heading s ss ks e in
    subst (λ ks. are_named ks ≡ true) (sym is)
    (ap₂ (λ a b. a && b) (heading-named s k own) (headings-named ss rest more))

-- what a first record with keys says
pub record IsHeader (header : List (List ℕ)) (ks : List Key) : Type 0 where
  pub named : are_named ks ≡ true
  pub keys : are_keys ks ≡ true

-- the keys of a first record
pub header-is : (header : List (List ℕ)) (ks : List Key) → keys_of_header header ≡ Some ks → IsHeader header ks
header-is [] ks e = absurd (cc e)
header-is (mark ∷ headings) ks e = by (for_each key_of_heading headings) refl e
  where
    test : (made : List Key) (b c : Bool) → for_each key_of_heading headings ≡ Some made → are_keys made ≡ c
        → only_if (b && c) made ≡ Some ks → IsHeader (mark ∷ headings) ks
    test made true true is keys e = subst (IsHeader (mark ∷ headings)) (same_Some made ks e)
        (record { named = headings-named headings made is; keys = keys })
    test made false c is keys e = absurd (cc e)
    test made true false is keys e = absurd (cc e)

    by : (o : Option (List Key)) → for_each key_of_heading headings ≡ o
        → (o >>= λ ks. only_if (bytes_eq mark (codes "#") && are_keys ks) ks) ≡ Some ks → IsHeader (mark ∷ headings) ks
    by None is e = absurd (cc e)
    by (Some made) is e = test made (bytes_eq mark (codes "#")) (are_keys made) is refl e

-- columns without values have room for each row
room-first : (ks : List Key) → AllByRecursion (HasRoom 0) (map no_values ks)
room-first [] = tt
room-first (k ∷ ks) = (record { before = refl; few = omega arith }, room-first ks)

-- the columns of a first record have room
pub room-header : (o : Option (List Key)) (cs : List FilledColumn) → option_map (map no_values) o ≡ Some cs
    → AllByRecursion (HasRoom 0) cs
room-header None cs e = absurd (cc e)
room-header (Some ks) cs e = subst (AllByRecursion (HasRoom 0)) (same_Some (map no_values ks) cs e) (room-first ks)
