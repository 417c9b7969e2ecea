-- Where a column stands in a file.
use Rattle.std.specs.Prelude.{ℕ, ◌==◌, ◌&&◌, nat_eq, Bool, List, [], ◌∷◌, ◌++◌, Option, filter, find, bytes_eq}
use Rattle.std.specs.List.{list_any, starts_with}
use Rattle.col_model.specs.ColumnType.{ColumnType, same_type}
use Rattle.col_model.specs.Keys.{Entry, FileKeys}

-- the type of a column, and where its bytes start and end
pub record Handle : Type 0 where
  pub column_type : ColumnType
  pub start : ℕ
  pub «end» : ℕ

-- the handle of an entry
abbrev pub handle_of : Entry → Handle
handle_of e = record { column_type = e.key.column_type; start = e.start; «end» = e.«end» }

-- an entry has the type and the place of a handle
abbrev pub is_at : Handle → Entry → Bool
is_at h e =
    same_type h.column_type e.key.column_type && (h.start == e.start) && (h.«end» == e.«end»)

-- some entry of a file has them
abbrev pub is_entry : FileKeys → Handle → Bool
is_entry k h = list_any (is_at h) k.entries

-- an entry's name, and its handle
abbrev pub listed : Entry → List ℕ × Handle
listed e = (e.key.name, handle_of e)

-- the entries of a name, in order
abbrev pub entries_named : List ℕ → List Entry → List Entry
entries_named name es = filter (λ e. bytes_eq e.key.name name) es

-- the entry of a name and a type
abbrev pub entry_typed : List ℕ → ColumnType → List Entry → Option Entry
entry_typed name t es =
    find (λ e. bytes_eq e.key.name name && same_type e.key.column_type t) es

-- the byte between the parts of a path
abbrev pub separator : ℕ
separator = 1

-- the entries whose names go on behind a path, in order
abbrev pub entries_below : List ℕ → List Entry → List Entry
entries_below path es =
    filter (λ e. starts_with nat_eq e.key.name (path ++ separator ∷ [])) es
