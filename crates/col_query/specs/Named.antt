-- The columns that a query names.
use Rattle.std.specs.Prelude.{◌≡◌, ℕ, ◌&&◌, ◌||◌, Bool, true, false, List, map, filter, length, set, get_or, slice_get, bytes_eq, string_bytes, Option, Some, None}
use Rattle.std.specs.List.{list_any}
use Rattle.col_common.specs.Reading.{◌>>=◌}
use Rattle.col_model.specs.ColumnType.{ColumnType, same_type}
use Rattle.col_model.specs.File.{Part, parts_of, table_of_part}
use Rattle.col_model.specs.Keys.{Entry, are_keys}
use Rattle.col_model.specs.Table.{Table}
use Rattle.col_types.specs.Kinds.{kind_of}
use Rattle.col_program.specs.Queries.{Query, all, has, range, none_of, each_of, some_of, Queries, no_queries, query}
use Rattle.col_questions.specs.declared.step.Step.{Step}
use Rattle.col_questions.specs.declared.step.Step.TheVariants as steps

-- whether a query names the column of a name and a type
abbrev pub is_named : List ℕ → ColumnType → List ℕ → ColumnType → Bool
is_named name kind own t = bytes_eq own name && same_type t kind

abbrev mutual
  pub names : Query → List ℕ → ColumnType → Bool
  names all own t = false
  names (has name kind) own t = is_named name kind own t
  names (range name kind lo hi) own t = is_named name kind own t
  names (none_of q) own t = names q own t
  names (each_of qs) own t = some_names qs own t
  names (some_of qs) own t = some_names qs own t

  pub some_names : Queries → List ℕ → ColumnType → Bool
  some_names no_queries own t = false
  some_names (query q qs) own t = names q own t || some_names qs own t

-- the part of a file that a query names
abbrev pub part_named : Query → Part → Part
part_named q p = record {
  row_count = p.row_count;
  columns = filter (λ c. names q c.name c.column_type) p.columns;
}

-- The table of the columns that a query names, where each of them is inside the grammar.
abbrev pub table_named : Query → List ℕ → Option Table
table_named q bytes = parts_of bytes >>= λ p. table_of_part (part_named q p)

-- an entry that a query names
abbrev pub is_of : Query → Entry → Bool
is_of q e = names q e.key.name e.key.column_type

-- the entries that a query names, in order
abbrev pub entries_of : Query → List Entry → List Entry
entries_of q es = filter (is_of q) es

-- the column that a step names, where it names one
abbrev pub step_names : Step → List ℕ → ColumnType → Bool
step_names (steps.Has name t) own kind = is_named (string_bytes name) (kind_of t) own kind
step_names (steps.Range name t lo hi) own kind = is_named (string_bytes name) (kind_of t) own kind
step_names steps.All own kind = false
step_names steps.Not own kind = false
step_names (steps.Begin j) own kind = false
step_names (steps.Join j) own kind = false

-- whether it names an entry's column
abbrev pub names_entry : Step → Entry → Bool
names_entry s e = step_names s e.key.name e.key.column_type

-- whether some step names an entry's column
abbrev pub some_names_entry : List Step → Entry → Bool
some_names_entry ss e = list_any (λ s. names_entry s e) ss

-- flags of which one is set, where its place is one of theirs
abbrev pub marked : Option ℕ → List Bool → List Bool
marked None flags = flags
marked (Some place) flags = set flags place true

-- A flag for each entry, set for none but those that some step names; and for each of these, where
-- no two entries have the same key.
pub record AreMarks (ss : List Step) (es : List Entry) (flags : List Bool) : Type 0 where
  pub long : length flags ≡ length es
  pub named : (at : ℕ) (e : Entry) → slice_get es at ≡ Some e → get_or flags at false ≡ true
      → some_names_entry ss e ≡ true
  pub whole : are_keys (map (λ e. e.key) es) ≡ true → (at : ℕ) (e : Entry)
      → slice_get es at ≡ Some e → some_names_entry ss e ≡ true → get_or flags at false ≡ true
