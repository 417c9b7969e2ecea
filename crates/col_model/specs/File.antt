-- The table that a file stands for. States docs/FORMAT.md, section 11.
use Rattle.std.specs.Prelude.{◌≡◌, ℕ, List, [], ◌∷◌, map, slice_range, Option, Some}
use Rattle.col_common.specs.Reading.{◌>>=◌}
use Rattle.col_model.specs.ColumnType.{ColumnType}
use Rattle.col_model.specs.Column.{column}
use Rattle.col_model.specs.Table.{Content, Column, Table}
use Rattle.col_model.specs.Keys.{Entry, FileKeys, keys}
use Rattle.col_model.specs.Version.{current_version}

-- a column whose bytes may stand for nothing
pub record PartColumn : Type 0 where
  pub name : List ℕ
  pub column_type : ColumnType
  pub content : Option Content

-- a segment of a merge
pub record Part : Type 0 where
  pub row_count : ℕ
  pub columns : List PartColumn

-- an entry with what its bytes stand for
abbrev pub part_column : List ℕ → FileKeys → Entry → PartColumn
part_column bytes k e = record {
  name = e.key.name;
  column_type = e.key.column_type;
  content = column (slice_range bytes e.start e.«end») e.key.column_type k.version k.row_count;
}

-- The row count and the columns of a file, each of which may be outside the grammar.
unfoldable pub parts_of : List ℕ → Option Part
parts_of bytes = keys bytes >>= λ k.
    Some (record { row_count = k.row_count; columns = map (part_column bytes k) k.entries })

-- the column, where its bytes stand for one
abbrev pub whole_column : PartColumn → Option Column
whole_column c = c.content >>= λ content.
    Some (record { name = c.name; column_type = c.column_type; content = content })

-- what f gives of each item, where it gives something of each
abbrev pub for_each : {A B : Type 0} → (A → Option B) → List A → Option (List B)
for_each f [] = Some []
for_each f (x ∷ xs) = f x >>= λ y. for_each f xs >>= λ ys. Some (y ∷ ys)

-- a part all of whose columns are inside the grammar
abbrev pub table_of_part : Part → Option Table
table_of_part p = for_each whole_column p.columns >>= λ columns.
    Some (record { row_count = p.row_count; columns = columns })

-- The table that a file stands for.
abbrev pub table_of : List ℕ → Option Table
table_of bytes = parts_of bytes >>= table_of_part

-- a column as a part has it
abbrev pub part_of_column : Column → PartColumn
part_of_column c = record { name = c.name; column_type = c.column_type; content = Some c.content }

-- a table as a part
abbrev pub part_of_table : Table → Part
part_of_table t = record { row_count = t.row_count; columns = map part_of_column t.columns }

-- the version of a file
abbrev pub file_version : List ℕ → Option ℕ
file_version bytes = keys bytes >>= λ k. Some k.version

-- a file that stands for the table, of the version that is written
pub record StandsFor (table : Table) (file : List ℕ) : Type 0 where
  pub content : table_of file ≡ Some table
  pub version : file_version file ≡ Some current_version
