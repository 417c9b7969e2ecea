-- Columns that are read, as calls see them: an index with values.
use Rattle.std.proofs.Common.{◌≡◌, ℕ, Bool, true, false, List, [], ◌∷◌, length, map, Option, Some, None, Result, Ok, Err, option_map, is_some, refl, sym, ap, ◌∙◌}
use Rattle.std.specs.Int.{w64}
use Rattle.std.specs.List.{list_all}
use Rattle.std.proofs.lemmas.List.{length-map, map-id}
use Rattle.std.proofs.lemmas.Option.{same_Some}
use Rattle.col_common.specs.Decoding.{Decodes}
use Rattle.col_common.specs.Reading.{◌>>=◌, only_if, parts_by_first}
use Rattle.col_common.specs.declared.error.ColumnarError.{ColumnarError}
use Rattle.col_common.proofs.DecodingLemmas.{refuses-as}
use Rattle.col_model.specs.AddressList.{values128}
use Rattle.col_model.specs.Column.{is_stored, stored_numbers, number_rows, column}
use Rattle.col_model.specs.ColumnType.{ColumnType}
use Rattle.col_model.specs.ColumnType as types
use Rattle.col_model.specs.Index.{Shape, shape}
use Rattle.col_model.specs.Table.{Cell, Content}
use Rattle.col_model.specs.U64List.{values64}
use Rattle.col_types.specs.Stored.{IsStoredAs}
use Rattle.col_column.specs.Columns.{Seen, content_seen}
use Rattle.col_column.specs.Opened.{counts_exactly, counted_rows, column_seen_by, indexed_by}
use Rattle.col_column.proofs.OpenRowsLemmas.{images, made_of, made_of-unparted, made_of-unread, made_of-read, number_rows-made}
use Rattle.col_column.proofs.OpenCellLemmas.{column-made}

-- a decoder's answer, seen otherwise
pub decodes-as : {T W : Type 0} (view : T → W) (r : Result T ColumnarError) (x : Option T) (y : Option W)
    → y ≡ option_map view x → Decodes (λ c. c) r x → Decodes view r y
decodes-as view (Ok c) x y e h = e ∙ ap (option_map view) h
decodes-as view (Err f) x y e h = refuses-as f x y (λ n. e ∙ ap (option_map view) n) h

-- an index with values, seen as what both make
indexed-as : {V R : Type 0} (view : Seen V → R) (rows count : ℕ) (values : V) (found : Option Shape)
    →
    (found >>= λ s. only_if (is_some (counts_exactly rows count s)) (view (record { shape = s; values = values })))
    ≡ option_map view (found >>= column_seen_by rows count values)
indexed-as view rows count values None = refl
indexed-as view rows count values (Some s) = at (is_some (counts_exactly rows count s))
  where
    at : (t : Bool) → only_if t (view (record { shape = s; values = values }))
        ≡ option_map view (only_if t (record { shape = s; values = values }))
    at true = refl
    at false = refl

-- numbers that all stand for values
pub all-pass : (xs : List ℕ) → list_all (λ n. true) xs ≡ true
all-pass [] = refl
all-pass (x ∷ xs) = all-pass xs

-- a test that any number passes leaves a list as it is
pub images-all : (o : Option (List ℕ)) → images (λ n. true) o ≡ o
images-all None = refl
images-all (Some xs) = ap (λ t. only_if t xs) (all-pass xs)

-- ---- columns of a type without terms

-- bytes that have no two parts stand for no column
pub column-unparted : {T : Type 0} (list : List ℕ → Option (List ℕ)) (kind : ColumnType) (cell : T → Cell)
    (value : ℕ → T) (is_code : ℕ → Bool) → IsStoredAs list kind cell value is_code
    → (bytes : List ℕ) (version rows : ℕ) → parts_by_first w64 bytes ≡ None → column bytes kind version rows ≡ None
column-unparted list kind cell value is_code stored bytes version rows e =
    column-made list kind cell value is_code stored bytes version rows ∙ made_of-unparted _ _ bytes version rows e

-- bytes whose second part stands for no values of the type stand for no column
pub column-unread : {T : Type 0} (list : List ℕ → Option (List ℕ)) (kind : ColumnType) (cell : T → Cell)
    (value : ℕ → T) (is_code : ℕ → Bool) → IsStoredAs list kind cell value is_code
    → (bytes : List ℕ) (version rows : ℕ) (a b : List ℕ) → parts_by_first w64 bytes ≡ Some (a, b)
    → option_map (map value) (images is_code (list b)) ≡ None → column bytes kind version rows ≡ None
column-unread list kind cell value is_code stored bytes version rows a b e f =
    column-made list kind cell value is_code stored bytes version rows
    ∙ made_of-unread (λ s xs. content_seen [] cell s (map value xs)) (λ b. images is_code (list b)) bytes version
    rows a b e (at (images is_code (list b)) f)
  where
    at : (o : Option (List ℕ)) → option_map (map value) o ≡ None → o ≡ None
    at None g = refl
    at (Some xs) g = cc

-- values that are read, behind their index
pub column-read : {T V : Type 0} (list_of : V → List T) (values : V) (list : List ℕ → Option (List ℕ))
    (kind : ColumnType) (cell : T → Cell) (value : ℕ → T) (is_code : ℕ → Bool)
    → IsStoredAs list kind cell value is_code → (bytes : List ℕ) (version rows : ℕ) (a b : List ℕ)
    → parts_by_first w64 bytes ≡ Some (a, b)
    → option_map (map value) (images is_code (list b)) ≡ Some (list_of values)
    → column bytes kind version rows
    ≡ option_map (λ (c : Seen V). content_seen [] cell c.shape (list_of c.values))
    (indexed_by a version rows (length (list_of values)) values)
column-read {T = T} {V = V} list_of values list kind cell value is_code stored bytes version rows a b e f =
    column-made list kind cell value is_code stored bytes version rows ∙ at (images is_code (list b)) refl f
  where
    view : Seen V → Content
    view c = content_seen [] cell c.shape (list_of c.values)

    of_values : ℕ → List T → Option Content
    of_values n vs = shape a version >>= λ s. only_if (is_some (counts_exactly rows n s)) (content_seen [] cell s vs)

    at : (o : Option (List ℕ)) → images is_code (list b) ≡ o → option_map (map value) o ≡ Some (list_of values)
        → made_of (λ s xs. content_seen [] cell s (map value xs)) (λ b. images is_code (list b)) bytes version rows
        ≡ option_map view (indexed_by a version rows (length (list_of values)) values)
    at None g h = cc
    at (Some xs) g h =
        made_of-read (λ s xs. content_seen [] cell s (map value xs)) (λ b. images is_code (list b)) bytes version rows a b xs e g
        ∙ ap (λ n. of_values n (map value xs)) (sym (length-map xs value))
        ∙ ap (λ vs. of_values (length vs) vs) (same_Some (map value xs) (list_of values) h)
        ∙ indexed-as view rows (length (list_of values)) values (shape a version)

-- ---- rows of the numbers of a type that stores all

-- the numbers that bytes stand for are those of a list, each of which may be stored
abbrev pub StoresAll : ColumnType → (List ℕ → Option (List ℕ)) → Type 0
StoresAll t list = (bytes : List ℕ) → images (is_stored t) (stored_numbers t bytes) ≡ list bytes

-- any addresses that bytes stand for may be stored
pub addresses-all : StoresAll types.ip values128
addresses-all bytes = images-all (values128 bytes)

-- any numbers of 64 bits that bytes stand for may be stored as ordinals
pub ordinals-all : StoresAll types.bytes values64
ordinals-all bytes = images-all (values64 bytes)

-- bytes that have no two parts stand for no rows of numbers
pub rows-unparted : (t : ColumnType) (bytes : List ℕ) (version rows : ℕ) → parts_by_first w64 bytes ≡ None
    → number_rows bytes t version rows ≡ None
rows-unparted t bytes version rows e =
    number_rows-made bytes t version rows ∙ made_of-unparted _ _ bytes version rows e

-- bytes whose second part stands for no list stand for no rows of numbers
pub rows-unread : (t : ColumnType) (list : List ℕ → Option (List ℕ)) → StoresAll t list
    → (bytes : List ℕ) (version rows : ℕ) (a b : List ℕ) → parts_by_first w64 bytes ≡ Some (a, b) → list b ≡ None
    → number_rows bytes t version rows ≡ None
rows-unread t list all bytes version rows a b e f =
    number_rows-made bytes t version rows ∙ made_of-unread _ _ bytes version rows a b e (all b ∙ f)

-- numbers that are read, so many, behind their index
pub rows-read : {V : Type 0} (list_of : V → List ℕ) (values : V) (count : ℕ) → length (list_of values) ≡ count
    → (t : ColumnType) (list : List ℕ → Option (List ℕ)) → StoresAll t list
    → (bytes : List ℕ) (version rows : ℕ) (a b : List ℕ) → parts_by_first w64 bytes ≡ Some (a, b)
    → list b ≡ Some (list_of values)
    → number_rows bytes t version rows
    ≡ option_map (λ (c : Seen V). counted_rows c.shape (list_of c.values)) (indexed_by a version rows count values)
rows-read {V = V} list_of values count long t list all bytes version rows a b e f =
    number_rows-made bytes t version rows
    ∙ made_of-read _ _ bytes version rows a b (list_of values) e (all b ∙ f)
    ∙ ap (λ n. shape a version >>= λ s. only_if (is_some (counts_exactly rows n s)) (counted_rows s (list_of values))) long
    ∙ indexed-as (λ (c : Seen V). counted_rows c.shape (list_of c.values)) rows count values (shape a version)

-- numbers that are values themselves, and all stand for one
pub values-all : (o : Option (List ℕ)) → option_map (map (λ n. n)) (images (λ _. true) o) ≡ o
values-all None = refl
values-all (Some xs) = rw (all-pass xs) (ap Some (map-id xs))
