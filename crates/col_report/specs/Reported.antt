-- Lines on the columns of an open file, as the definitions have them.
use Rattle.std.specs.Prelude.{List, ℕ, [], ◌∷◌, ◌++◌, Bool, map, length, codes, Option, Some, None}
use Rattle.std.specs.List.{range_with_len}
use Rattle.json.specs.Print.{quoted}
use Rattle.serde_json.specs.Data.{Data, string, null}
use Rattle.col_model.specs.ColumnType.{ColumnType, type_name}
use Rattle.col_model.specs.Facets.{facet_of}
use Rattle.col_model.specs.Lookup.{docs_between}
use Rattle.col_model.specs.Table.{Content, Column}
use Rattle.col_program.specs.Report.{list_data, docs_data, counted_data}
use Rattle.col_program.specs.Script as script
use Rattle.col_dynamic.specs.Dynamic.{type_of, content_of}
use Rattle.col_dynamic.specs.declared.dynamic_column.DynamicColumn.{DynamicColumn}

-- an open column under a name
abbrev pub named_as : List ℕ → DynamicColumn → Column
named_as name c = record { name = name; column_type = type_of c; content = content_of c }

-- the line of a word, a column's name and its type, by what was found
abbrev pub typed_line : List ℕ → List ℕ → ColumnType → Data → Data
typed_line word name t found =
    list_data (string word ∷ string name ∷ string (type_name t) ∷ found ∷ [])

-- the text of the name and the type in that line
unfoldable pub name_text : List ℕ → ColumnType → List ℕ
name_text name t = quoted name ++ 44 ∷ (quoted (type_name t) ++ 44 ∷ [])

-- what a lookup finds in a column, if there is one
abbrev pub docs_in : Bool → script.Find → Option Content → Data
docs_in short f None = null
docs_in short f (Some content) = docs_data short (docs_between content f.lo f.hi f.from f.to)

-- the line of a lookup, by what it found
abbrev pub find_line : script.Find → Data → Data
find_line f found = typed_line (codes "find") f.name f.column_type found

-- how often each cell of a column stands, if there is one
abbrev pub counts_of : ColumnType → Option Content → Data
counts_of t None = null
counts_of t (Some content) = list_data (map (counted_data t)
    (facet_of content (range_with_len 0 (length content.rows))))

-- the line of these counts
abbrev pub facet_line : List ℕ → ColumnType → Data → Data
facet_line name t found = typed_line (codes "facet") name t found

-- the line of the documents of a query
abbrev pub docs_line : Bool → List ℕ → Data
docs_line short docs = list_data (string (codes "query") ∷ docs_data short docs ∷ [])
