-- The handles of a file's entries open what the definitions have of the file.
use Rattle.std.proofs.Common.{◌≡◌, ℕ, ◌==◌, ◌&&◌, Bool, true, false, List, [], ◌∷◌, map, Option, refl, sym, ap₂}
use Rattle.std.specs.List.{AllByRecursion, list_any}
use Rattle.std.proofs.lemmas.Bool.{eq-eqb, or_left, or_right}
use Rattle.col_model.specs.ColumnType.{same_type, type_code}
use Rattle.col_model.specs.File.{PartColumn, part_column}
use Rattle.col_model.specs.Keys.{Entry, FileKeys}
use Rattle.col_model.specs.Table.{Content}
use Rattle.col_file.specs.Columns.{content_at}
use Rattle.col_file.specs.Handles.{handle_of, is_at, is_entry}

both : (a b : Bool) → a ≡ true → b ≡ true → (a && b) ≡ true
both true b e f = f
both false b e f = e

-- an entry is where its handle says
pub is_at-own : (e : Entry) → is_at (handle_of e) e ≡ true
is_at-own e =
    let kind : same_type e.key.column_type e.key.column_type ≡ true =
    eq-eqb (type_code e.key.column_type) (type_code e.key.column_type) refl in
    both (same_type e.key.column_type e.key.column_type && (e.start == e.start)) (e.«end» == e.«end»)
    (both (same_type e.key.column_type e.key.column_type) (e.start == e.start) kind (eq-eqb e.start e.start refl))
    (eq-eqb e.«end» e.«end» refl)

more_behind : (x : Entry) (all left : List Entry)
    → AllByRecursion (λ e. list_any (is_at (handle_of e)) all ≡ true) left
    → AllByRecursion (λ e. list_any (is_at (handle_of e)) (x ∷ all) ≡ true) left
more_behind x all [] h = tt
more_behind x all (e ∷ left) h = (or_right (is_at (handle_of e) x) (list_any (is_at (handle_of e)) all) h.0, more_behind x all left h.1)

own : (es : List Entry) → AllByRecursion (λ e. list_any (is_at (handle_of e)) es ≡ true) es
own [] = tt
own (e ∷ es) = (or_left (is_at (handle_of e) e) (list_any (is_at (handle_of e)) es) (is_at-own e), more_behind e es es (own es))

-- the handle of each entry is that of an entry
pub own-handles : (k : FileKeys) → AllByRecursion (λ e. is_entry k (handle_of e) ≡ true) k.entries
own-handles k = own k.entries

-- what the handle of an entry opens is what the entry's bytes stand for
pub content-of_entry : (bytes : List ℕ) (k : FileKeys) (e : Entry) → is_entry k (handle_of e) ≡ true
    → content_at k (handle_of e) bytes ≡ (part_column bytes k e).content
content-of_entry bytes k e h = rw h refl

abbrev with_content : Entry → Option Content → PartColumn
with_content e content =
    record { name = e.key.name; column_type = e.key.column_type; content = content }

-- an entry with what its handle opens
abbrev pub part_opened : List ℕ → FileKeys → Entry → PartColumn
part_opened bytes k e = with_content e (content_at k (handle_of e) bytes)

all_opened : (bytes : List ℕ) (k : FileKeys) (es : List Entry)
    → AllByRecursion (λ e. is_entry k (handle_of e) ≡ true) es
    → map (part_column bytes k) es ≡ map (part_opened bytes k) es
all_opened bytes k [] h = refl
all_opened bytes k (e ∷ es) h =
    ap₂ (λ content columns. with_content e content ∷ columns) (sym (content-of_entry bytes k e h.0))
    (all_opened bytes k es h.1)
