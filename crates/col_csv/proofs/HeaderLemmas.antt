-- The first record of a text, and the keys that it spells.
use Rattle.std.proofs.Common.{◌≡◌, ℕ, true, ◌&&◌, List, [], ◌∷◌, map, filter, bytes_eq, Some, refl, ◌∙◌, ap, ap₂, subst}
use Rattle.std.specs.Prelude.{codes}
use Rattle.std.specs.List.{AllByRecursion, AllZip}
use Rattle.std.proofs.lemmas.Bool.{and_parts, and_from}
use Rattle.std.proofs.lemmas.Option.{none-some}
use Rattle.col_common.specs.Ascending.{is_ascending}
use Rattle.col_common.specs.Reading.{◌>>=◌, only_if}
use Rattle.col_model.specs.ColumnType.{is_numerical}
use Rattle.col_model.specs.File.{for_each}
use Rattle.col_model.specs.Keys.{Key, are_keys, is_name, key_bytes}
use Rattle.col_model.specs.Sound.{key_of_column}
use Rattle.col_model.specs.Table.{Column}
use Rattle.col_model.proofs.DecodedNumbers.{if-of, step-of}
use Rattle.col_model.proofs.ListLaws.{map-map, filter-map}
use Rattle.col_model.proofs.OrderingLaws.{bytes_eq-true}
use Rattle.col_model.proofs.SoundTables.{AreNamed}
use Rattle.col_csv.specs.Csv.{header_fields, heading}
use Rattle.col_csv.specs.CsvTable.{key_of_heading, keys_of_header}
use Rattle.col_csv.proofs.HeadingLemmas.{heading-is, heading_text, key-again}
use Rattle.col_csv.proofs.ListLemmas.{each-some, some-more}

-- the headings of columns lead back to their keys
headings-again : (cs : List Column) → AreNamed cs → for_each key_of_heading (map heading cs) ≡ Some (map key_of_column cs)
headings-again [] all = refl
headings-again (c ∷ cs) all =
    some-more key_of_heading (heading c) (key_of_column c) (map heading cs) (map key_of_column cs)
    (key-again (key_of_column c) all.0) (headings-again cs all.1)

-- keys that a table's columns have
abbrev pub HaveKeys : List Column → Type 0
HaveKeys cs = are_keys (map key_of_column cs) ≡ true

-- the first record leads back to the keys
pub keys-again : (cs : List Column) → AreNamed cs → HaveKeys cs → keys_of_header (header_fields cs) ≡ Some (map key_of_column cs)
keys-again cs all h =
    ap (λ o. o >>= λ keys. only_if (bytes_eq (codes "#") (codes "#") && are_keys keys) keys) (headings-again cs all)
    ∙ ap (λ b. only_if b (map key_of_column cs)) h

-- names of numerical columns
abbrev pub numerical_names : List Column → List (List ℕ)
numerical_names cs = map (λ c. c.name) (filter (λ c. is_numerical c.column_type) cs)

-- the numerical keys of columns have these names
pub numbers-named : (cs : List Column)
    → map (λ (k : Key). k.name) (filter (λ (k : Key). is_numerical k.column_type) (map key_of_column cs)) ≡ numerical_names cs
numbers-named cs =
    ap (map (λ (k : Key). k.name)) (filter-map key_of_column (λ k. is_numerical k.column_type) cs)
    ∙ map-map (λ (k : Key). k.name) key_of_column (filter (λ c. is_numerical c.column_type) cs)

-- the keys of a sound table
pub sound-keys : (cs : List Column) → is_ascending (map (λ c. key_bytes (key_of_column c)) cs) ≡ true
    → is_ascending (numerical_names cs) ≡ true → HaveKeys cs
sound-keys cs e h =
    and_from _ _ (ap is_ascending (map-map key_bytes key_of_column cs) ∙ e) (ap is_ascending (numbers-named cs) ∙ h)

-- a first record that spells keys
pub record IsHeaderOf (header : List (List ℕ)) (keys : List Key) : Type 0 where
  pub spells : header ≡ codes "#" ∷ map heading_text keys
  pub named : AllByRecursion (λ k. is_name k.name ≡ true) keys
  pub ascending : are_keys keys ≡ true

-- headings that spell keys are their texts
headings-are : (headings : List (List ℕ)) (keys : List Key) → AllZip (λ s k. key_of_heading s ≡ Some k) headings keys
    → (headings ≡ map heading_text keys) × AllByRecursion (λ k. is_name k.name ≡ true) keys
headings-are [] [] h = (refl, tt)
headings-are [] (k ∷ keys) h = absurd h
headings-are (s ∷ headings) [] h = absurd h
headings-are (s ∷ headings) (k ∷ keys) h =
    let one = heading-is s k h.0 in
    let later = headings-are headings keys h.1 in
    (ap₂ (λ (a : List ℕ) b. a ∷ b) one.spells later.0, (one.named, later.1))

-- a first record that leads to keys spells them
pub header-is : (header : List (List ℕ)) (keys : List Key) → keys_of_header header ≡ Some keys → IsHeaderOf header keys
header-is [] keys e = absurd (none-some keys e)
header-is (mark ∷ headings) keys e =
    let a = step-of (for_each key_of_heading headings) (λ keys. only_if (bytes_eq mark (codes "#") && are_keys keys) keys) keys e in
    let tested = if-of (bytes_eq mark (codes "#") && are_keys a.x) a.x keys a.rest in
    let parts = and_parts (bytes_eq mark (codes "#")) (are_keys a.x) tested.0 in
    let all = headings-are headings a.x (each-some key_of_heading headings a.x a.first) in
    subst (IsHeaderOf (mark ∷ headings)) tested.1 (record {
      spells = ap₂ (λ (a : List ℕ) b. a ∷ b) (bytes_eq-true mark (codes "#") parts.0) all.0;
      named = all.1;
      ascending = parts.1;
    })
