-- What is seen of the fields of columns.
use Rattle.std.specs.Prelude.{◌≡◌, ◌<◌, ℕ, Bool, true, false, List, [], length, get_or, unwrap_or, bytes_eq, String, if◌then◌else◌}
use Rattle.std.specs.BTreeMap.{BTreeMap, get_by_text}
use Rattle.std.specs.Result.{is_ok}
use Rattle.col_load_csv.specs.Columns.{CsvColumn, document_of}
use Rattle.col_load_csv.specs.Documents.{texts_at, texts_from}
use Rattle.col_load_csv.specs.Seen.{merged, seen_of, with_field}
use Rattle.col_load_csv.specs.declared.seen.Seen.{Seen}

-- what is seen of the column at a place
abbrev pub sight_at : List Seen → ℕ → Seen
sight_at seen place = get_or seen place (seen_of [])

-- It is that of the fields of records.
abbrev pub AreSeen : List (List (List ℕ)) → List Seen → Type 0
AreSeen rows seen = (i : ℕ) → i < length seen → sight_at seen i ≡ seen_of (texts_at i rows)

-- The fields of a record more were seen, each at its place.
pub record SeesFields (fields : List (List ℕ)) (old new : List Seen) : Type 0 where
  pub many : length new ≡ length old
  pub seen : (i : ℕ) → i < length old
      → sight_at new i ≡ with_field (sight_at old i) (get_or fields i [])

-- The same where a record is a document; else nothing changes.
abbrev pub SeesWhere : Bool → List (List ℕ) → List Seen → List Seen → Type 0
SeesWhere true fields old new = SeesFields fields old new
SeesWhere false fields old new = new ≡ old

-- The same of a record.
abbrev pub SeesRecord : List CsvColumn → List (List ℕ) → List Seen → List Seen → Type 0
SeesRecord columns fields old new =
    SeesWhere (is_ok (document_of columns fields)) fields old new

-- what is seen of all columns with a name
abbrev pub sight_under : {Y : Type 0} → BTreeMap (String Y) Seen → List ℕ → Seen
sight_under sights name = unwrap_or (get_by_text sights name) (seen_of [])

-- It is that of their fields, for each name.
abbrev pub AreSeenByName : {Y : Type 0} → List (List (List ℕ)) → List CsvColumn
    → BTreeMap (String Y) Seen → Type 0
AreSeenByName rows columns sights = (name : List ℕ)
    → sight_under sights name ≡ seen_of (texts_from name rows 0 columns)

-- what is seen, with a column more where it has the name
abbrev pub with_own : Seen → Bool → Seen → Seen
with_own all b own = if b then merged all own else all

-- What is seen of a column was added under its name.
abbrev pub AddsSight : {Y : Type 0} → List ℕ → Seen → BTreeMap (String Y) Seen
    → BTreeMap (String Y) Seen → Type 0
AddsSight name own old new = (other : List ℕ)
    → sight_under new other ≡ with_own (sight_under old other) (bytes_eq name other) own
