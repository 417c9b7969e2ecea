-- What is seen of all columns with a name.
use Rattle.std.specs.BTreeMap.{get_by_text}
use Rattle.std.specs.Cmp.Lexicographic.{bytes_decides}
use Rattle.std.specs.Map.{update}
use Rattle.std.proofs.Common.{◌≡◌, ◌∙◌, ◌+◌, ◌<◌, ◌≤◌, ℕ, Bool, true, false, List, [], ◌∷◌, ◌++◌, map, drop, length, get_or, bytes_eq, string_bytes, cond, Some, String, BTreeMap, unwrap_or, refl, sym, ap, arith}
use Rattle.std.specs.Prelude.{if◌then◌else◌}
use Rattle.std.proofs.lemmas.List.{drop_all, length-map}
use Rattle.std.proofs.lemmas.Simd.{map-map}
use Rattle.col_load_csv.specs.Documents.{decided_by, texts_at, texts_from}
use Rattle.col_load_csv.specs.Read.{column_read}
use Rattle.col_load_csv.specs.Seen.{kind_seen, merged, seen_of}
use Rattle.col_load_csv.specs.Sights.{AddsSight, AreSeen, sight_at, sight_under, with_own}
use Rattle.col_load_csv.specs.declared.column.Column.{Column}
use Rattle.col_load_csv.specs.declared.seen.Seen.{Seen}
use Rattle.col_load_csv.proofs.PlaceLemmas.{left_mapped}
use Rattle.col_load_csv.proofs.SightLemmas.{merged_assoc, merged_none, seen_append}

module _ (name : List ℕ) (rows : List (List (List ℕ))) (columns : List Column) where
  -- what is seen, with the columns that are left from a place on, is what is seen of all
  abbrev pub HasMerged : Seen → ℕ → Type 0
  HasMerged all place =
      merged all (seen_of (texts_from name rows place (drop place (map column_read columns))))
      ≡ seen_of (texts_from name rows 0 (map column_read columns))

  -- a column more
  pub merged_more : (all own next : Seen) (place : ℕ) (column : Column) (seen : List Seen) → place < length columns
      → length seen ≡ length columns → column ≡ get_or columns place column → own ≡ sight_at seen place
      → next ≡ with_own all (bytes_eq (column_read column).name name) own → AreSeen rows seen → HasMerged all place
      → HasMerged next (place + 1)
  merged_more all own next place column seen within long is is' made are h =
      ap (λ s. merged s (seen_of later)) made
      ∙ by (bytes_eq (column_read column).name name) refl
      ∙ ap (λ cs. merged all (seen_of (texts_from name rows place cs))) (sym (left_mapped column_read columns place column within is))
      ∙ h
    where
      later : List (List ℕ)
      later = texts_from name rows (place + 1) (drop (place + 1) (map column_read columns))

      own-is : own ≡ seen_of (texts_at place rows)
      own-is =
          let inside : place < length seen = omega (arith, long, within) in
          is' ∙ are place inside

      by : (b : Bool) → bytes_eq (column_read column).name name ≡ b
          → merged (with_own all b own) (seen_of (texts_from name rows (place + 1) (drop (place + 1) (map column_read columns))))
          ≡ merged all (seen_of (texts_from name rows place (column_read column ∷ drop (place + 1) (map column_read columns))))
      by true e =
          ap (λ s. merged (merged all s) (seen_of (texts_from name rows (place + 1) (drop (place + 1) (map column_read columns))))) own-is
          ∙ sym (merged_assoc all (seen_of (texts_at place rows))
          (seen_of (texts_from name rows (place + 1) (drop (place + 1) (map column_read columns)))))
          ∙ ap (merged all) (sym (seen_append (texts_at place rows)
          (texts_from name rows (place + 1) (drop (place + 1) (map column_read columns)))))
          ∙ ap (λ b. merged all (seen_of ((if b then texts_at place rows else [])
          ++ texts_from name rows (place + 1) (drop (place + 1) (map column_read columns))))) (sym e)
      by false e =
          ap (λ b. merged all (seen_of ((if b then texts_at place rows else [])
          ++ texts_from name rows (place + 1) (drop (place + 1) (map column_read columns))))) (sym e)

  -- none is left
  pub merged_all : (all : Seen) (place : ℕ) → length columns ≤ place → HasMerged all place
      → all ≡ seen_of (texts_from name rows 0 (map column_read columns))
  merged_all all place past h =
      let none : drop place (map column_read columns) ≡ [] =
      drop_all place (map column_read columns) (let same = length-map columns column_read in omega (arith, same, past)) in
      sym (merged_none all) ∙ ap (λ cs. merged all (seen_of (texts_from name rows place cs))) (sym none) ∙ h

-- ---- kinds

-- a column with the kind that is seen of all with its name
pub column_decided : (columns : List Column) (rows : List (List (List ℕ))) (column new : Column) (seen : Seen)
    → string_bytes new.name ≡ string_bytes column.name → new.form ≡ column.form → new.kind ≡ kind_seen seen
    → seen ≡ seen_of (texts_from (string_bytes column.name) rows 0 (map column_read columns))
    → column_read new ≡ decided_by (map column_read columns) rows (column_read column)
column_decided columns rows column new seen same form kind is =
    λ i. record { name = same i; form = form i; kind = (kind ∙ ap kind_seen is) i }

-- columns that are decided one by one
pub columns_decided : (columns : List Column) (rows : List (List (List ℕ)))
    → map (λ c. decided_by (map column_read columns) rows (column_read c)) columns
    ≡ map (decided_by (map column_read columns) rows) (map column_read columns)
columns_decided columns rows = sym (map-map (decided_by (map column_read columns) rows) column_read columns)

-- ---- by names

module _ {Y : Type 0} (old new : BTreeMap (String Y) Seen) (name : List ℕ) (own : Seen) where
  -- a map in which a name has what is seen with a column more
  pub adds_sight : ((other : List ℕ) → get_by_text new other
      ≡ update bytes_eq (get_by_text old) name (Some (merged (sight_under old name) own)) other) → AddsSight name own old new
  adds_sight sets other = ap (λ o. unwrap_or o (seen_of [])) (sets other) ∙ by (bytes_eq name other) refl
    where
      by : (b : Bool) → bytes_eq name other ≡ b
          → unwrap_or (cond b (Some (merged (sight_under old name) own)) (get_by_text old other)) (seen_of [])
          ≡ with_own (sight_under old other) b own
      by true same = ap (λ n. merged (sight_under old n) own) ((bytes_decides name other).0 same)
      by false same = refl
