-- Rows of a range, by ends that are moved to where the values of a type begin and end.
use Rattle.std.proofs.Common.{◌≡◌, ℕ, zero, suc, ◌&&◌, ◌||◌, ◌^◌, Bool, IsTrue, true, false, ℤ, pos, negsuc, ◌-◌, int_le, int_lt, List, [], ◌∷◌, refl, sym, ap, ◌∙◌, arith}
use Rattle.std.specs.List.{list_all, list_any}
use Rattle.std.proofs.lemmas.Bool.{and_parts, and_from}
use Rattle.std.proofs.lemmas.Int.{ints}
use Rattle.col_model.specs.ColumnType.{ColumnType}
use Rattle.col_model.specs.ColumnType as types
use Rattle.col_model.specs.Limits.{is_of_type}
use Rattle.col_model.specs.Lookup.{is_between, row_of}
use Rattle.col_model.specs.Table.{Cell, Content}
use Rattle.col_model.specs.Table as cells
use Rattle.col_places.specs.Ranges.{are_cells_of, greatest_of, least_of, rows_between}
use Rattle.col_program.specs.Queries.{End, cell_of, is_kind, num}
use Rattle.col_query.specs.Sets.{docs_where}
use Rattle.col_query.proofs.SetLemmas.{no_docs, same_docs}
use Rattle.col_questions.specs.Steps.{is_end_of}

-- no row passes
pub rows-none : (p : ℕ → Bool) (n : ℕ) → ((d : ℕ) → p d ≡ false) → docs_where p n ≡ []
rows-none p n none = no_docs p n (λ d h. none d)

-- ---- the kinds of ends

-- neither end is of another kind
pub other-low : (t : ColumnType) (lo hi : End) (content : Content) (n : ℕ) → is_kind t lo ≡ false → rows_between t lo hi content n ≡ []
other-low t lo hi content n other =
    let any : ℕ → Bool = λ d. list_any (is_between (cell_of lo) (cell_of hi)) (row_of content d) in
    rows-none (λ d. is_kind t lo && is_kind t hi && any d) n (λ d. ap (λ b. b && is_kind t hi && any d) other)

pub other-high : (t : ColumnType) (lo hi : End) (content : Content) (n : ℕ) → is_kind t hi ≡ false → rows_between t lo hi content n ≡ []
other-high t lo hi content n other =
    let any : ℕ → Bool = λ d. list_any (is_between (cell_of lo) (cell_of hi)) (row_of content d) in
    rows-none (λ d. is_kind t lo && is_kind t hi && any d) n
    (λ d. ap (λ b. is_kind t lo && b && any d) other ∙ by (is_kind t lo) (any d))
  where
    by : (a b : Bool) → (a && false && b) ≡ false
    by true b = refl
    by false b = refl

-- ---- cells of a type

-- a number of a type is from the least to the greatest
kind-bounds : (t : ColumnType) (w z : ℤ) → is_kind t (num w) ≡ true → is_of_type t (cells.number z) ≡ true
    → (int_le (least_of t) z ≡ true) × (int_le z (greatest_of t) ≡ true)
kind-bounds types.i64 w z kind e =
    let p = and_parts (int_le (negsuc (2 ^ 63 - 1)) z) (int_lt z (pos (2 ^ 63))) e in
    let below : int_lt z (pos (2 ^ 63)) ≡ true = p.1 in
    let most : int_le z (greatest_of types.i64) ≡ true = grind (arith, ints) in
    (p.0, most)
kind-bounds types.datetime w z kind e =
    let p = and_parts (int_le (negsuc (2 ^ 63 - 1)) z) (int_lt z (pos (2 ^ 63))) e in
    let below : int_lt z (pos (2 ^ 63)) ≡ true = p.1 in
    let most : int_le z (greatest_of types.datetime) ≡ true = grind (arith, ints) in
    (p.0, most)
kind-bounds types.u64 w z kind e =
    let p = and_parts (int_le (pos 0) z) (int_lt z (pos (2 ^ 64))) e in
    let below : int_lt z (pos (2 ^ 64)) ≡ true = p.1 in
    let most : int_le z (greatest_of types.u64) ≡ true = grind (arith, ints) in
    (p.0, most)
kind-bounds types.bool w z kind e =
    let p = and_parts (int_le (pos 0) z) (int_lt z (pos 2)) e in
    let below : int_lt z (pos 2) ≡ true = p.1 in
    let most : int_le z (greatest_of types.bool) ≡ true = grind (arith, ints) in
    (p.0, most)
kind-bounds types.ip w z kind e = absurd (cc kind)
kind-bounds types.str w z kind e = absurd (cc kind)
kind-bounds types.bytes w z kind e = absurd (cc kind)

-- what cells hold in a row that the column has
pub row-cells : (t : ColumnType) (content : Content) (d : ℕ) → are_cells_of t content ≡ true
    → list_all (is_of_type t) (row_of content d) ≡ true
row-cells t content d = by content.rows d
  where
    by : (rows : List (List Cell)) (d : ℕ) → list_all (list_all (is_of_type t)) rows ≡ true
        → list_all (is_of_type t) (row_of (record content { rows = rows }) d) ≡ true
    by [] d all = refl
    by (row ∷ rows) zero all = (and_parts (list_all (is_of_type t) row) (list_all (list_all (is_of_type t)) rows) all).0
    by (row ∷ rows) (suc d) all = by rows d (and_parts (list_all (is_of_type t) row) (list_all (list_all (is_of_type t)) rows) all).1

-- ---- ends that are moved

-- numbers from the least of a type to the greatest are values of the type
pub end-fits : (t : ColumnType) (w z : ℤ) → is_kind t (num w) ≡ true → int_le (least_of t) z ≡ true → int_le z (greatest_of t) ≡ true
    → IsTrue (is_end_of t (num z))
end-fits types.i64 w z kind low high =
    let below : int_lt z (pos (2 ^ 63)) ≡ true = grind (arith, ints) in
    and_from _ _ low below
end-fits types.datetime w z kind low high =
    let below : int_lt z (pos (2 ^ 63)) ≡ true = grind (arith, ints) in
    and_from _ _ low below
end-fits types.u64 w z kind low high =
    let below : int_lt z (pos (2 ^ 64)) ≡ true = grind (arith, ints) in
    and_from _ _ low below
end-fits types.bool w z kind low high =
    let below : int_lt z (pos 2) ≡ true = grind (arith, ints) in
    and_from _ _ low below
end-fits types.ip w z kind low high = absurd (cc kind)
end-fits types.str w z kind low high = absurd (cc kind)
end-fits types.bytes w z kind low high = absurd (cc kind)

-- rows by the same ends
pub rows-by : (content : Content) (n : ℕ) (a b c d : ℤ) → a ≡ b → c ≡ d
    → docs_where (λ r. list_any (is_between (cells.number a) (cells.number c)) (row_of content r)) n
    ≡ docs_where (λ r. list_any (is_between (cells.number b) (cells.number d)) (row_of content r)) n
rows-by content n a b c d p q =
    λ i. docs_where (λ r. list_any (is_between (cells.number (p i)) (cells.number (q i))) (row_of content r)) n

-- what moved ends test, said of the same type and end
pub moved-low : (s t : ColumnType) (own lo low : ℤ) → s ≡ t → own ≡ lo
    → ((z : ℤ) → int_le (least_of s) z ≡ true → int_le low z ≡ int_le own z)
    → (z : ℤ) → int_le (least_of t) z ≡ true → int_le low z ≡ int_le lo z
moved-low s t own lo low is same moved z h =
    moved z (ap (λ t. int_le (least_of t) z) is ∙ h) ∙ ap (λ v. int_le v z) same

pub moved-high : (s t : ColumnType) (own hi high : ℤ) → s ≡ t → own ≡ hi
    → ((z : ℤ) → int_le z (greatest_of s) ≡ true → int_le z high ≡ int_le z own)
    → (z : ℤ) → int_le z (greatest_of t) ≡ true → int_le z high ≡ int_le z hi
moved-high s t own hi high is same moved z h =
    moved z (ap (λ t. int_le z (greatest_of t)) is ∙ h) ∙ ap (λ v. int_le z v) same

-- of two ends in order, the lower one is below what the higher one is, and the higher one above what
-- the lower one is
pub ends-ordered : (low high most : ℤ) → int_lt high low ≡ false → int_le high most ≡ true → int_le low most ≡ true
ends-ordered low high most ordered below = grind (arith, ints)

pub ends-above : (low high least : ℤ) → int_lt high low ≡ false → int_le least low ≡ true → int_le least high ≡ true
ends-above low high least ordered above = grind (arith, ints)

module _ (t : ColumnType) (lo hi low high : ℤ) (kind : is_kind t (num lo) ≡ true)
    (raised : (z : ℤ) → int_le (least_of t) z ≡ true → int_le low z ≡ int_le lo z)
    (lowered : (z : ℤ) → int_le z (greatest_of t) ≡ true → int_le z high ≡ int_le z hi) where
  cell-same : (cell : Cell) → is_of_type t cell ≡ true
      → is_between (cells.number low) (cells.number high) cell ≡ is_between (cells.number lo) (cells.number hi) cell
  cell-same (cells.text s) of = refl
  cell-same (cells.number z) of =
      let inside = kind-bounds t lo z kind of in
      λ i. raised z inside.0 i && lowered z inside.1 i

  cells-same : (row : List Cell) → list_all (is_of_type t) row ≡ true
      → list_any (is_between (cells.number low) (cells.number high)) row ≡ list_any (is_between (cells.number lo) (cells.number hi)) row
  cells-same [] all = refl
  cells-same (cell ∷ row) all =
      let of = and_parts (is_of_type t cell) (list_all (is_of_type t) row) all in
      λ i. cell-same cell of.0 i || cells-same row of.1 i

  -- the same rows pass
  pub rows-same : (content : Content) (n : ℕ) → are_cells_of t content ≡ true
      → docs_where (λ r. list_any (is_between (cells.number low) (cells.number high)) (row_of content r)) n
      ≡ docs_where (λ r. list_any (is_between (cells.number lo) (cells.number hi)) (row_of content r)) n
  rows-same content n all =
      same_docs (λ r. list_any (is_between (cells.number low) (cells.number high)) (row_of content r))
      (λ r. list_any (is_between (cells.number lo) (cells.number hi)) (row_of content r)) n
      (λ r below. cells-same (row_of content r) (row-cells t content r all))

  outside : int_lt high low ≡ true → (row : List Cell)
      → list_any (is_between (cells.number low) (cells.number high)) row ≡ false
  outside past [] = refl
  outside past (cells.text s ∷ row) = outside past row
  outside past (cells.number z ∷ row) = λ i. between z past i || outside past row i
    where
      between : (z : ℤ) → int_lt high low ≡ true → (int_le low z && int_le z high) ≡ false
      between z past = grind (arith, ints)

  -- where the ends have passed each other, no row passes
  pub rows-outside : (content : Content) (n : ℕ) → are_cells_of t content ≡ true → int_lt high low ≡ true
      → docs_where (λ r. list_any (is_between (cells.number lo) (cells.number hi)) (row_of content r)) n ≡ []
  rows-outside content n all past =
      sym (rows-same content n all)
      ∙ rows-none (λ r. list_any (is_between (cells.number low) (cells.number high)) (row_of content r)) n
      (λ r. outside past (row_of content r))
