-- The columns that records fill are those of the definition.
use Rattle.std.proofs.Common.{◌≡◌, ◌+◌, ℕ, List, [], ◌∷◌, map, length, Some, None, refl}
use Rattle.std.specs.Prelude.{Option, option_map}
use Rattle.std.specs.List.{range_with_len, zip}
use Rattle.col_common.specs.Reading.{◌>>=◌}
use Rattle.col_model.specs.File.{for_each}
use Rattle.col_model.specs.Keys.{Key}
use Rattle.col_model.specs.Table.{Cell, Column}
use Rattle.col_csv.specs.CsvTable.{column_of_fields, flat_content}
use Rattle.col_csv_import.specs.Columns.{FilledColumn, no_values}
use Rattle.col_csv_import.proofs.EachLemmas.{made-long}
use Rattle.col_csv_import.proofs.RowLemmas.{columns_rows, rows_at, with_found}

-- a column that was filled, and that of the definition
pub record IsColumnOf (n : ℕ) (k : Key) (c : FilledColumn) (x : Column) : Type 0 where
  pub found : List (List Cell)
  pub long : length found ≡ n
  pub filled : c ≡ with_found 0 (no_values k) found
  pub is : x ≡ record { name = k.name; column_type = k.column_type; content = flat_content found }

-- each of them
unfoldable pub AreColumnsOf : ℕ → List Key → List FilledColumn → List Column → Type 0
AreColumnsOf n [] [] [] = Unit {0}
AreColumnsOf n (k ∷ ks) (c ∷ cs) (x ∷ xs) = IsColumnOf n k c x × AreColumnsOf n ks cs xs
AreColumnsOf n _ _ _ = ⊥

-- the same, or neither are there
unfoldable pub Alike : ℕ → List Key → Option (List FilledColumn) → Option (List Column) → Type 0
Alike n ks None None = Unit {0}
Alike n ks (Some cs) (Some xs) = AreColumnsOf n ks cs xs
Alike n ks _ _ = ⊥

-- the columns that are filled are those of the definition, or neither are there
pub alike : (rows : List (List (List ℕ))) (i : ℕ) (ks : List Key)
    → Alike (length rows) ks (columns_rows 0 rows i (map no_values ks))
    (for_each (column_of_fields rows) (zip (range_with_len i (length ks)) ks))
unfolding Alike AreColumnsOf
alike rows i [] = tt
alike rows i (k ∷ ks) =
    by (rows_at rows i k.column_type) refl (columns_rows 0 rows (i + 1) (map no_values ks))
    (for_each (column_of_fields rows) (zip (range_with_len (i + 1) (length ks)) ks)) (alike rows (i + 1) ks)
  where
    by : (o : Option (List (List Cell))) → rows_at rows i k.column_type ≡ o → (p : Option (List FilledColumn)) (q : Option (List Column))
        → Alike (length rows) ks p q → Alike (length rows) (k ∷ ks)
        (option_map (with_found 0 (no_values k)) o >>= λ x. p >>= λ xs. Some (x ∷ xs))
        ((o >>= λ found. Some (record { name = k.name; column_type = k.column_type; content = flat_content found }))
        >>= λ y. q >>= λ ys. Some (y ∷ ys))
    by None is p q h = tt
    by (Some found) is None None h = tt
    by (Some found) is None (Some xs) h = absurd h
    by (Some found) is (Some cs) None h = absurd h
    by (Some found) is (Some cs) (Some xs) h =
        (record { found = found; long = made-long _ rows found is; filled = refl; is = refl }, h)
