-- The content of a column whose type has no terms, part by part.
use Rattle.std.proofs.Common.{◌≡◌, ℕ, Bool, true, List, [], ◌∷◌, length, map, take, drop, Option, Some, refl, sym, ap, ◌∙◌}
use Rattle.std.specs.List.{list_all}
use Rattle.std.proofs.lemmas.Bool.{and_parts}
use Rattle.std.proofs.lemmas.List.{take-map, drop-map, length-map}
use Rattle.col_common.specs.Reading.{◌>>=◌}
use Rattle.col_model.specs.Column.{number_cell, is_stored, stored_numbers, cut_content, column}
use Rattle.col_model.specs.ColumnType.{ColumnType}
use Rattle.col_model.specs.Dictionary.{cut}
use Rattle.col_model.specs.Index.{Shape}
use Rattle.col_model.specs.Table.{Cell}
use Rattle.col_types.specs.Stored.{IsStoredAs}
use Rattle.col_column.specs.Columns.{counts_seen, counts_by, rows_by, content_seen}
use Rattle.col_column.specs.Opened.{counted_rows}
use Rattle.col_column.proofs.OpenRowsLemmas.{images, made_of, mapped-made_of, made_of-as, number_rows-made}

-- a list that is mapped is cut as it was
pub map-cut : {A B : Type 0} (f : A → B) (ns : List ℕ) (xs : List A) → map (map f) (cut ns xs) ≡ cut ns (map f xs)
unfolding cut
map-cut f [] xs = refl
map-cut f (n ∷ ns) xs = rw (take-map, drop-map) (ap (λ rest. map f (take n xs) ∷ rest) (map-cut f ns (drop n xs)))

pub map-rows_by : {A B : Type 0} (f : A → B) (s : Shape) (xs : List A) → map (map f) (rows_by s xs) ≡ rows_by s (map f xs)
unfolding rows_by
map-rows_by f s xs =
    map-cut f (counts_by s (length xs)) xs ∙ ap (λ n. cut (counts_by s n) (map f xs)) (sym (length-map xs f))

-- numbers have the cells of their values
cells-of : {T : Type 0} (list : List ℕ → Option (List ℕ)) (kind : ColumnType) (cell : T → Cell) (value : ℕ → T)
    (is_code : ℕ → Bool) → IsStoredAs list kind cell value is_code → (xs : List ℕ) → list_all is_code xs ≡ true
    → map (number_cell kind) xs ≡ map cell (map value xs)
cells-of list kind cell value is_code stored [] all = refl
cells-of list kind cell value is_code stored (x ∷ xs) all =
    let p = and_parts (is_code x) (list_all is_code xs) all in
    rw (stored.cells x p.0, cells-of list kind cell value is_code stored xs p.1) refl

-- the content of rows of numbers is that of their values
content-of : {T : Type 0} (list : List ℕ → Option (List ℕ)) (kind : ColumnType) (cell : T → Cell) (value : ℕ → T)
    (is_code : ℕ → Bool) → IsStoredAs list kind cell value is_code → (s : Shape) (xs : List ℕ)
    → list_all is_code xs ≡ true
    → cut_content [] (number_cell kind) (counted_rows s xs) ≡ content_seen [] cell s (map value xs)
content-of list kind cell value is_code stored s xs all =
    let rows = map-rows_by (number_cell kind) s xs
    ∙ ap (rows_by s) (cells-of list kind cell value is_code stored xs all)
    ∙ sym (map-rows_by cell s (map value xs)) in
    ap (λ r. record { cardinality = (counts_seen s (length xs)).cardinality; terms = []; rows = r }) rows

-- the content of a column whose type has no terms, by its parts
pub column-made : {T : Type 0} (list : List ℕ → Option (List ℕ)) (kind : ColumnType) (cell : T → Cell)
    (value : ℕ → T) (is_code : ℕ → Bool) → IsStoredAs list kind cell value is_code
    → (bytes : List ℕ) (version rows : ℕ)
    → column bytes kind version rows
    ≡ made_of (λ s xs. content_seen [] cell s (map value xs)) (λ b. images is_code (list b)) bytes version rows
unfolding column
column-made list kind cell value is_code stored bytes version rows =
    rw stored.without_terms (ap (λ o. o >>= λ p. Some (cut_content [] (number_cell kind) p)) (number_rows-made bytes kind version rows)
    ∙ mapped-made_of (cut_content [] (number_cell kind)) counted_rows
    (λ b. images (is_stored kind) (stored_numbers kind b)) bytes version rows
    ∙ ap (λ (l : List ℕ → Option (List ℕ)). made_of (λ s xs. cut_content [] (number_cell kind) (counted_rows s xs)) l
    bytes version rows) (λ i b. images (λ n. stored.stored n i) (stored.numbers b i))
    ∙ made_of-as (λ s xs. cut_content [] (number_cell kind) (counted_rows s xs)) (λ s xs. content_seen [] cell s
    (map value xs)) is_code list (content-of list kind cell value is_code stored) bytes version rows)
