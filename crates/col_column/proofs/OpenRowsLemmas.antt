-- The rows of a column's bytes, part by part.
use Rattle.std.proofs.Common.{◌≡◌, ℕ, ◌==◌, ◌&&◌, Bool, true, false, List, length, sum, Option, Some, None, option_map, is_some, refl, ap, ◌∙◌}
use Rattle.std.specs.Int.{w64}
use Rattle.std.specs.List.{list_all}
use Rattle.col_common.specs.Reading.{◌>>=◌, only_if, parts_by_first}
use Rattle.col_model.specs.Column.{is_stored, stored_numbers, number_rows}
use Rattle.col_model.specs.ColumnType.{ColumnType}
use Rattle.col_model.specs.Dictionary.{cut}
use Rattle.col_model.specs.Index.{Counts, Shape, counts, counts_over, shape}
use Rattle.col_model.proofs.ItemLaws.{only_if-then}
use Rattle.col_column.specs.Columns.{counts_seen, rows_by}
use Rattle.col_column.specs.Opened.{counts_exactly, counted_rows}
use Rattle.col_column.proofs.OpenCountLemmas.{counts_exactly-seen}

-- the list, where each of its numbers stands for a value
abbrev pub images : (ℕ → Bool) → Option (List ℕ) → Option (List ℕ)
images is_code o = o >>= λ xs. only_if (list_all is_code xs) xs

-- what a shape and a list make, where the shape has so many rows and counts just the list
abbrev pub made : {R : Type 0} → (Shape → List ℕ → R) → ℕ → List ℕ → Shape → Option R
made make rows xs s = only_if (is_some (counts_exactly rows (length xs) s)) (make s xs)

-- what a found shape and a list make
abbrev pub made_behind : {R : Type 0} → (Shape → List ℕ → R) → ℕ → Option Shape → List ℕ → Option R
made_behind make rows found xs = found >>= made make rows xs

-- what an index and a list make
abbrev pub made_of_parts : {R : Type 0} → (Shape → List ℕ → R) → (List ℕ → Option (List ℕ)) → ℕ → ℕ → List ℕ × List ℕ → Option R
made_of_parts make list version rows p = list p.1 >>= made_behind make rows (shape p.0 version)

-- what the bytes of a column make: an index, a list, and the index's length
abbrev pub made_of : {R : Type 0} → (Shape → List ℕ → R) → (List ℕ → Option (List ℕ)) → List ℕ → ℕ → ℕ → Option R
made_of make list bytes version rows = parts_by_first w64 bytes >>= made_of_parts make list version rows

-- no parts, and a list that isn't read
pub made_of-unparted :
    {R : Type 0} (make : Shape → List ℕ → R) (list : List ℕ → Option (List ℕ)) (bytes : List ℕ) (version rows : ℕ)
    → parts_by_first w64 bytes ≡ None → made_of make list bytes version rows ≡ None
made_of-unparted make list bytes version rows e = ap (λ o. o >>= made_of_parts make list version rows) e

-- bytes whose second part stands for no list make nothing
pub made_of-unread : {R : Type 0} (make : Shape → List ℕ → R) (list : List ℕ → Option (List ℕ)) (bytes : List ℕ)
    (version rows : ℕ) (a b : List ℕ) → parts_by_first w64 bytes ≡ Some (a, b) → list b ≡ None
    → made_of make list bytes version rows ≡ None
made_of-unread make list bytes version rows a b e f =
    ap (λ o. o >>= made_of_parts make list version rows) e ∙ ap (λ o. o >>= made_behind make rows (shape a version)) f

-- a list that is read, behind its index
pub made_of-read : {R : Type 0} (make : Shape → List ℕ → R) (list : List ℕ → Option (List ℕ)) (bytes : List ℕ)
    (version rows : ℕ) (a b xs : List ℕ) → parts_by_first w64 bytes ≡ Some (a, b) → list b ≡ Some xs
    → made_of make list bytes version rows ≡ (shape a version >>= made make rows xs)
made_of-read make list bytes version rows a b xs e f =
    ap (λ o. o >>= made_of_parts make list version rows) e ∙ ap (λ o. o >>= made_behind make rows (shape a version)) f

-- ---- what is made, as something else

-- turning what bytes make is making it turned
pub mapped-made_of : {R S : Type 0} (f : R → S) (make : Shape → List ℕ → R) (list : List ℕ → Option (List ℕ))
    (bytes : List ℕ) (version rows : ℕ)
    → (made_of make list bytes version rows >>= λ y. Some (f y))
    ≡ made_of (λ s xs. f (make s xs)) list bytes version rows
mapped-made_of f make list bytes version rows = by_parts (parts_by_first w64 bytes)
  where
    by_shape : (xs : List ℕ) (found : Option Shape)
        → ((found >>= made make rows xs) >>= λ y. Some (f y)) ≡ (found >>= made (λ s ys. f (make s ys)) rows xs)
    by_shape xs None = refl
    by_shape xs (Some s) = only_if-then f (is_some (counts_exactly rows (length xs) s)) (make s xs)

    by_list : (found : Option Shape) (o : Option (List ℕ))
        → ((o >>= made_behind make rows found) >>= λ y. Some (f y))
        ≡ (o >>= made_behind (λ s ys. f (make s ys)) rows found)
    by_list found None = refl
    by_list found (Some xs) = by_shape xs found

    by_parts : (o : Option (List ℕ × List ℕ))
        → ((o >>= made_of_parts make list version rows) >>= λ y. Some (f y))
        ≡ (o >>= made_of_parts (λ s ys. f (make s ys)) list version rows)
    by_parts None = refl
    by_parts (Some p) = by_list (shape p.0 version) (list p.1)

-- the same of lists whose numbers stand for values
pub made_of-as :
    {R : Type 0} (make other : Shape → List ℕ → R) (is_code : ℕ → Bool) (list : List ℕ → Option (List ℕ))
    → ((s : Shape) (xs : List ℕ) → list_all is_code xs ≡ true → make s xs ≡ other s xs)
    → (bytes : List ℕ) (version rows : ℕ)
    → made_of make (λ b. images is_code (list b)) bytes version rows
    ≡ made_of other (λ b. images is_code (list b)) bytes version rows
made_of-as make other is_code list same bytes version rows = by_parts (parts_by_first w64 bytes)
  where
    by_shape : (xs : List ℕ) → list_all is_code xs ≡ true → (found : Option Shape)
        → (found >>= made make rows xs) ≡ (found >>= made other rows xs)
    by_shape xs all None = refl
    by_shape xs all (Some s) = ap (only_if (is_some (counts_exactly rows (length xs) s))) (same s xs all)

    by_test : (found : Option Shape) (xs : List ℕ) (t : Bool) → list_all is_code xs ≡ t
        → (only_if t xs >>= made_behind make rows found) ≡ (only_if t xs >>= made_behind other rows found)
    by_test found xs true all = by_shape xs all found
    by_test found xs false all = refl

    by_list : (found : Option Shape) (o : Option (List ℕ))
        → (images is_code o >>= made_behind make rows found) ≡ (images is_code o >>= made_behind other rows found)
    by_list found None = refl
    by_list found (Some xs) = by_test found xs (list_all is_code xs) refl

    by_parts : (o : Option (List ℕ × List ℕ))
        → (o >>= made_of_parts make (λ b. images is_code (list b)) version rows)
        ≡ (o >>= made_of_parts other (λ b. images is_code (list b)) version rows)
    by_parts None = refl
    by_parts (Some p) = by_list (shape p.0 version) (list p.1)

-- ---- rows of numbers

-- how `number_rows` reads a shape and numbers
abbrev pub tested_rows : (ℕ → Bool) → Counts → List ℕ → Option (Counts × List (List ℕ))
tested_rows is_code c xs =
    only_if ((sum c.of_rows == length xs) && list_all is_code xs) (c, cut c.of_rows xs)

-- the same by the counts that are seen
tested-made : (is_code : ℕ → Bool) (rows : ℕ) (s : Shape) (xs : List ℕ)
    → (counts_over rows s >>= λ c. tested_rows is_code c xs)
    ≡ (only_if (list_all is_code xs) xs >>= λ ys. made counted_rows rows ys s)
unfolding rows_by
tested-made is_code rows s xs = at (list_all is_code xs) (counts_over rows s) (counts_exactly-seen rows (length xs) s)
  where
    exactly : ℕ → Option Counts → Option Counts
    exactly n o = o >>= λ c. only_if (sum c.of_rows == n) c

    passed : (c : Counts) (t : Bool) → only_if t c ≡ only_if (is_some (only_if t c)) (counts_seen s (length xs))
        → only_if {A = Counts × List (List ℕ)} (t && true) (c, cut c.of_rows xs)
        ≡ only_if (is_some (only_if t c)) (counted_rows s xs)
    passed c true e = ap (option_map (λ (d : Counts). (d, cut d.of_rows xs))) e
    passed c false e = refl

    failed : (c : Counts) (t : Bool) → only_if {A = Counts × List (List ℕ)} (t && false) (c, cut c.of_rows xs) ≡ None
    failed c true = refl
    failed c false = refl

    at : (u : Bool) (o : Option Counts)
        → exactly (length xs) o ≡ only_if (is_some (exactly (length xs) o)) (counts_seen s (length xs))
        →
        (o >>= λ c. only_if {A = Counts × List (List ℕ)} ((sum c.of_rows == length xs) && u) (c, cut c.of_rows xs))
        ≡ (only_if u xs >>= λ ys. only_if (is_some (exactly (length ys) o)) (counted_rows s ys))
    at true None e = refl
    at true (Some c) e = passed c (sum c.of_rows == length xs) e
    at false None e = refl
    at false (Some c) e = failed c (sum c.of_rows == length xs)

-- the same of options
tested-behind : (is_code : ℕ → Bool) (rows : ℕ) (found : Option Shape) (numbers : Option (List ℕ))
    → ((found >>= counts_over rows) >>= λ c. numbers >>= tested_rows is_code c)
    ≡ (images is_code numbers >>= made_behind counted_rows rows found)
tested-behind is_code rows None None = refl
tested-behind is_code rows None (Some xs) = none (list_all is_code xs)
  where
    none : (t : Bool) → None ≡ (only_if t xs >>= made_behind counted_rows rows None)
    none true = refl
    none false = refl
tested-behind is_code rows (Some s) None = none (counts_over rows s)
  where
    none : (o : Option Counts) → (o >>= λ c. None >>= tested_rows is_code c) ≡ None
    none None = refl
    none (Some c) = refl
tested-behind is_code rows (Some s) (Some xs) = tested-made is_code rows s xs

-- the rows of numbers, by their parts
pub number_rows-made : (bytes : List ℕ) (t : ColumnType) (version rows : ℕ)
    → number_rows bytes t version rows
    ≡ made_of counted_rows (λ b. images (is_stored t) (stored_numbers t b)) bytes version rows
unfolding number_rows counts
number_rows-made bytes t version rows = at (parts_by_first w64 bytes)
  where
    at : (o : Option (List ℕ × List ℕ))
        → (o >>=
        λ p. (shape p.0 version >>= counts_over rows) >>= λ c. stored_numbers t p.1 >>= tested_rows (is_stored t) c)
        ≡ (o >>= made_of_parts counted_rows (λ b. images (is_stored t) (stored_numbers t b)) version rows)
    at None = refl
    at (Some p) = tested-behind (is_stored t) rows (shape p.0 version) (stored_numbers t p.1)
