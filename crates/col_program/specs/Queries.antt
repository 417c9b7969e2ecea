-- Queries: documents by the columns and the values that they have. States docs/RULES.md, Queries.
use Rattle.std.specs.Prelude.{ℕ, ℤ, pos, ◌&&◌, ◌||◌, nat_lt, Bool, true, false, not, List, [], filter, find, length, codes, bytes_eq, Option, Some, None, if◌then◌else◌}
use Rattle.std.specs.List.{list_any, range_with_len}
use Rattle.serde_json.specs.Data.{Data, null, boolean, number, string, array, object, Items, no_items, item}
use Rattle.serde_json.specs.Find.{as_str}
use Rattle.col_common.specs.Reading.{◌>>=◌}
use Rattle.col_model.specs.ColumnType.{ColumnType, same_type}
use Rattle.col_model.specs.ColumnType as types
use Rattle.col_model.specs.Lookup.{is_between, row_of}
use Rattle.col_model.specs.Table.{Cell, Column, Table}
use Rattle.col_model.specs.Table as cells
use Rattle.col_program.specs.Values.{as_cell, as_type}

-- an end of a range: a number (of a bool 0 or 1), an address, the bytes of a term
pub data End : Type 0 where
  num : ℤ → End
  addr : ℕ → End
  term : List ℕ → End

-- all documents; those with a value of a column; those with a value from one end to the other; those
-- that aren't of a query; those of each query; those of some query
mutual
  pub data Query : Type 0 where
    all : Query
    has : List ℕ → ColumnType → Query
    range : List ℕ → ColumnType → End → End → Query
    none_of : Query → Query
    each_of : Queries → Query
    some_of : Queries → Query

  pub data Queries : Type 0 where
    no_queries : Queries
    query : Query → Queries → Queries

-- ---- documents that hold

-- the cell that an end is, and whether cells of a type are of its kind
abbrev pub cell_of : End → Cell
cell_of (num z) = cells.number z
cell_of (addr n) = cells.number (pos n)
cell_of (term s) = cells.text s

abbrev pub is_kind : ColumnType → End → Bool
is_kind types.i64 (num z) = true
is_kind types.u64 (num z) = true
is_kind types.bool (num z) = true
is_kind types.datetime (num z) = true
is_kind types.ip (addr n) = true
is_kind types.str (term s) = true
is_kind types.bytes (term s) = true
is_kind t e = false

-- the column of a name and a type
abbrev pub column_named : List ℕ → ColumnType → List Column → Option Column
column_named name t cs = find (λ c. bytes_eq c.name name && same_type c.column_type t) cs

-- the cells of a document in a column, none where there is no column
abbrev pub cells_in : Option Column → ℕ → List Cell
cells_in None d = []
cells_in (Some c) d = row_of c.content d

-- some cell of a document is at least the one end and at most the other
abbrev pub has_between : Option Column → ColumnType → End → End → ℕ → Bool
has_between c t lo hi d =
    is_kind t lo && is_kind t hi && list_any (is_between (cell_of lo) (cell_of hi)) (cells_in c d)

-- whether a document of the table is one of the query
abbrev mutual
  pub holds : Table → Query → ℕ → Bool
  holds t all d = true
  holds t (has name kind) d = nat_lt 0 (length (cells_in (column_named name kind t.columns) d))
  holds t (range name kind lo hi) d = has_between (column_named name kind t.columns) kind lo hi d
  holds t (none_of q) d = not (holds t q d)
  holds t (each_of qs) d = each_holds t qs d
  holds t (some_of qs) d = some_holds t qs d

  pub each_holds : Table → Queries → ℕ → Bool
  each_holds t no_queries d = true
  each_holds t (query q qs) d = holds t q d && each_holds t qs d

  pub some_holds : Table → Queries → ℕ → Bool
  some_holds t no_queries d = false
  some_holds t (query q qs) d = holds t q d || some_holds t qs d

-- The documents of a table that are of a query, ascending.
unfoldable pub answer_of : Table → Query → List ℕ
answer_of t q = filter (holds t q) (range_with_len 0 t.row_count)

-- ---- queries in JSON

-- a value of a type as an end
abbrev pub end_of_cell : ColumnType → Cell → End
end_of_cell types.ip (cells.number (pos n)) = addr n
end_of_cell types.ip (cells.number z) = num z
end_of_cell t (cells.number z) = num z
end_of_cell t (cells.text s) = term s

-- an end: a value of the type, as scripts write it
abbrev pub as_end : ColumnType → Data → Option End
as_end t d = as_cell t d >>= λ cell. Some (end_of_cell t cell)

-- the text is this word
abbrev pub is_word : List ℕ → Data → Bool
is_word word d = is_text (as_str d)
  where
    is_text : Option (List ℕ) → Bool
    is_text None = false
    is_text (Some s) = bytes_eq s word

-- ["has",name,t]
abbrev pub has_of : Data → Data → Option Query
has_of name t = as_str name >>= λ name. as_type t >>= λ t. Some (has name t)

-- ["range",name,t,lo,hi]
abbrev pub range_of : Data → Data → Data → Data → Option Query
range_of name t lo hi = do
  name ← as_str name
  t ← as_type t
  lo ← as_end t lo
  hi ← as_end t hi
  Some (range name t lo hi)

-- what f gives, where the test passes
abbrev pub only_where : {A : Type 0} → Bool → Option A → Option A
only_where true o = o
only_where false o = None

-- ["not",q], ["and",[q,..]] or ["or",[q,..]], by what the part behind the word is as a query and as
-- a list of queries
abbrev pub joined_of : Data → Option Query → Option Queries → Option Query
joined_of word q qs =
    if is_word (codes "not") word then (q >>= λ q. Some (none_of q))
    else (if is_word (codes "and") word then (qs >>= λ qs. Some (each_of qs))
    else only_where (is_word (codes "or") word) (qs >>= λ qs. Some (some_of qs)))

-- The query that a JSON value is: an array of one of these shapes, ["all"] among them.
abbrev mutual
  pub query_of : Data → Option Query
  query_of null = None
  query_of (boolean b) = None
  query_of (number n) = None
  query_of (string s) = None
  query_of (object ms) = None
  query_of (array ds) = query_in ds

  pub query_in : Items → Option Query
  query_in no_items = None
  query_in (item word no_items) = only_where (is_word (codes "all") word) (Some all)
  query_in (item word (item part no_items)) = joined_of word (query_of part) (members_of part)
  query_in (item word (item name (item t no_items))) =
      only_where (is_word (codes "has") word) (has_of name t)
  query_in (item word (item name (item t (item lo no_items)))) = None
  query_in (item word (item name (item t (item lo (item hi no_items))))) =
      only_where (is_word (codes "range") word) (range_of name t lo hi)
  query_in (item word (item name (item t (item lo (item hi (item d ds)))))) = None

  pub members_of : Data → Option Queries
  members_of null = None
  members_of (boolean b) = None
  members_of (number n) = None
  members_of (string s) = None
  members_of (object ms) = None
  members_of (array ds) = queries_of ds

  pub queries_of : Items → Option Queries
  queries_of no_items = Some no_queries
  queries_of (item d ds) = query_of d >>= λ q. queries_of ds >>= λ qs. Some (query q qs)
