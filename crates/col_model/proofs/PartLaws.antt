-- Parts of files all of whose columns are whole.
use Rattle.std.proofs.Common.{◌≡◌, ℕ, List, [], ◌∷◌, map, Option, Some, None, refl, ap, ap₂, ◌∙◌}
use Rattle.std.proofs.lemmas.Option.{same_Some}
use Rattle.col_common.specs.Reading.{◌>>=◌}
use Rattle.col_model.specs.File.{PartColumn, whole_column, for_each, part_of_column, Part, parts_of, table_of, table_of_part, part_of_table}
use Rattle.col_model.specs.Table.{Content, Column, Table}

-- columns that are whole, as a part has them
pub whole-columns : (ps : List PartColumn) (cs : List Column) → for_each whole_column ps ≡ Some cs → ps ≡ map part_of_column cs
whole-columns [] cs e = ap (map part_of_column) (same_Some [] cs e)
whole-columns (p ∷ ps) cs e = by p.content refl (for_each whole_column ps) refl e (λ ys rest. whole-columns ps ys rest)
  where
    by : (o : Option Content) → p.content ≡ o → (q : Option (List Column)) → for_each whole_column ps ≡ q
        → ((o >>= λ content. Some (record { name = p.name; column_type = p.column_type; content = content })) >>=
        λ (y : Column). q >>= λ ys. Some (y ∷ ys)) ≡ Some cs
        → ((ys : List Column) → for_each whole_column ps ≡ Some ys → ps ≡ map part_of_column ys)
        → p ∷ ps ≡ map part_of_column cs
    by None at q rest h later = cc
    by (Some content) at None rest h later = cc
    by (Some content) at (Some ys) rest h later =
        ap₂ (λ (c : PartColumn) cs. c ∷ cs) (λ i. record { name = p.name; column_type = p.column_type; content = at i }) (later ys rest)
        ∙ ap (map part_of_column) (same_Some (record { name = p.name; column_type = p.column_type; content = content } ∷ ys) cs h)

-- a part whose table is this
pub whole-table : (p : Part) (t : Table) → table_of_part p ≡ Some t → p ≡ part_of_table t
whole-table p t e = by (for_each whole_column p.columns) refl e
  where
    by : (q : Option (List Column)) → for_each whole_column p.columns ≡ q
        → (q >>= λ cs. Some (record { row_count = p.row_count; columns = cs })) ≡ Some t → p ≡ part_of_table t
    by None rest h = cc
    by (Some cs) rest h =
        (λ i. record { row_count = p.row_count; columns = whole-columns p.columns cs rest i })
        ∙ ap part_of_table (same_Some (record { row_count = p.row_count; columns = cs }) t h)

-- the columns of a table, as parts of a file
pub columns-whole : (cs : List Column) → for_each whole_column (map part_of_column cs) ≡ Some cs
columns-whole [] = refl
columns-whole (c ∷ cs) = ap (λ o. o >>= λ ys. Some (c ∷ ys)) (columns-whole cs)

-- the part of a file that stands for a table
pub whole-part : (bytes : List ℕ) (t : Table) → table_of bytes ≡ Some t → parts_of bytes ≡ Some (part_of_table t)
whole-part bytes t = by (parts_of bytes)
  where
    by : (o : Option Part) → (o >>= table_of_part) ≡ Some t → o ≡ Some (part_of_table t)
    by None h = cc
    by (Some p) h = ap Some (whole-table p t h)
