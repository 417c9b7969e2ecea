-- The rows that a shape cuts values into, by the positions of their values.
use Rattle.std.proofs.Common.{◌≡◌, ℕ, zero, suc, ◌+◌, ◌-◌, ◌<◌, ◌≤◌, ◌==◌, Bool, true, false, cond, List, [], ◌∷◌, length, take, drop, sum, get_or, replicate, slice_get, slice_range, Option, Some, None, refl, sym, ap, add-one, ◌∙◌, if◌then◌else◌, subst, arith}
use Rattle.std.proofs.lemmas.Bool.{eqb-true, lt-ltb}
use Rattle.std.proofs.lemmas.List.{drop-drop}
use Rattle.std.proofs.lemmas.List.Sums.{sum_by-take-le}
use Rattle.col_model.specs.Dictionary.{cut}
use Rattle.col_model.specs.Index.{Shape, empty_shape, full_shape, optional_shape, multivalued_shape}
use Rattle.col_model.specs.Positions.{start_of, count_in, positions_in, index_range}
use Rattle.col_indexer.specs.Offsets.{positions_if_any}
use Rattle.col_model.proofs.ListLaws.{sum-cons}
use Rattle.col_column.specs.Columns.{Seen, row_count, num_docs_in, IsCounted, rows_by, rows_of_values, row_at, AreOf}

-- how many runs a cut gives
pub length-cut : {T : Type 0} (cs : List ℕ) (xs : List T) → length (cut cs xs) ≡ length cs
unfolding cut
length-cut [] xs = refl
length-cut (c ∷ cs) xs = ap suc (length-cut cs (drop c xs))

-- a run of a cut list
pub row_at-cut : {T : Type 0} (cs : List ℕ) (xs : List T) (d : ℕ) → row_at (cut cs xs) d ≡ take (get_or cs d 0) (drop (start_of cs d) xs)
unfolding cut
row_at-cut [] xs zero = refl
row_at-cut [] xs (suc d) = refl
row_at-cut (c ∷ cs) xs zero = refl
row_at-cut (c ∷ cs) xs (suc d) =
    row_at-cut cs (drop c xs) d
    ∙ ap (take (get_or cs d 0)) (drop-drop (start_of cs d) c xs ∙ ap (λ n. drop n xs) (sym (sum-cons c (take d cs))))

-- the values of a row end where those of the next start
start-suc : (cs : List ℕ) (d : ℕ) → start_of cs (suc d) ≡ start_of cs d + get_or cs d 0
start-suc [] zero = refl
start-suc [] (suc d) = refl
start-suc (c ∷ cs) zero = refl
start-suc (c ∷ cs) (suc d) = omega (arith, sum-cons c (take (suc d) cs), sum-cons c (take d cs), start-suc cs d)

-- a row starts behind the values of the row before it
pub start-next : (cs : List ℕ) (d : ℕ) → start_of cs (d + 1) ≡ start_of cs d + get_or cs d 0
start-next cs d = ap (start_of cs) (add-one d) ∙ start-suc cs d

-- rows start one behind another, within the sum of all
start-up : (cs : List ℕ) (a k : ℕ) → start_of cs a ≤ start_of cs (a + k)
start-up cs a zero = let same : a + 0 ≡ a = omega arith in omega (arith, ap (start_of cs) same)
start-up cs a (suc k) =
    let same : a + suc k ≡ a + k + 1 = omega arith in
    omega (arith, ap (start_of cs) same, start-next cs (a + k), start-up cs a k)

-- a later row starts no earlier
pub start-monotone : (cs : List ℕ) (a b : ℕ) → a ≤ b → start_of cs a ≤ start_of cs b
start-monotone cs a b le =
    let same : a + (b - a) ≡ b = omega arith in
    omega (arith, ap (start_of cs) same, start-up cs a (b - a))

-- each row starts within the values
pub start-within : (cs : List ℕ) (a : ℕ) → start_of cs a ≤ sum cs
start-within cs a = sum_by-take-le (λ c. c) cs a

-- the values of a row stand within those of all
pub end-within : (cs : List ℕ) (d : ℕ) → start_of cs d + get_or cs d 0 ≤ sum cs
end-within cs d = omega (arith, start-next cs d, start-within cs (d + 1))

-- ---- rows of one value each

-- a value, as a row
abbrev pub one : {T : Type 0} → Option T → List T
one None = []
one (Some x) = x ∷ []

-- where each row has one value, that of a row is the one at its place
pub single : {T : Type 0} (xs : List T) (d : ℕ) → row_at (cut (replicate (length xs) 1) xs) d ≡ one (slice_get xs d)
unfolding cut
single [] d = refl
single (x ∷ xs) zero = refl
single (x ∷ xs) (suc d) = single xs d

single-range : {T : Type 0} (xs : List T) (d : ℕ) → slice_range xs d (d + 1) ≡ one (slice_get xs d)
single-range xs d = (let k : d + 1 - d ≡ 1 = omega arith in ap (λ n. take n (drop d xs)) k) ∙ go xs d
  where
    go : {T : Type 0} (xs : List T) (d : ℕ) → take 1 (drop d xs) ≡ one (slice_get xs d)
    go [] zero = refl
    go [] (suc d) = refl
    go (x ∷ xs) zero = refl
    go (x ∷ xs) (suc d) = go xs d

-- ---- rows without a value

nothing : (m d : ℕ) → ◌≡◌ {A = ℕ} (get_or (replicate m 0) d 0) 0
nothing zero d = refl
nothing (suc m) zero = refl
nothing (suc m) (suc d) = nothing m d

-- rows without values are empty
pub row-empty : {T : Type 0} (m : ℕ) (xs : List T) (d : ℕ) → row_at (cut (replicate m 0) xs) d ≡ []
row-empty m xs d = row_at-cut (replicate m 0) xs d ∙ ap (λ n. take n (drop (start_of (replicate m 0) d) xs)) (nothing m d)

-- ---- the positions of a row's values

counted-row : {T : Type 0} (cs : List ℕ) (xs : List T) (d : ℕ) → sum cs ≡ length xs → d < length cs
    → AreOf xs (index_range cs d) (row_at (cut cs xs) d)
counted-row cs xs d all inside = subst (λ b. AreOf xs (if b then (start_of cs d, start_of cs (d + 1)) else (0, 0))
    (row_at (cut cs xs) d)) (sym (lt-ltb d (length cs) inside)) (record {
      order = omega (arith, start-next cs d);
      within = omega (arith, start-within cs (d + 1));
      values =
          let size : start_of cs (d + 1) - start_of cs d ≡ get_or cs d 0 = omega (arith, start-next cs d) in
          ap (λ n. take n (drop (start_of cs d) xs)) size ∙ sym (row_at-cut cs xs d);
    })

row_values : {T : Type 0} (s : Shape) (xs : List T) (d : ℕ) → IsCounted s (length xs) → d < row_count s (length xs)
    → AreOf xs (positions_in s d) (row_at (rows_by s xs) d)
unfolding rows_by
row_values (empty_shape m) xs d none inside = record {
  order = omega arith;
  within = omega arith;
  values = sym (row-empty m xs d);
}
row_values full_shape xs d any inside = record {
  order = omega arith;
  within = omega arith;
  values = single-range xs d ∙ sym (single xs d);
}
row_values (optional_shape cs) xs d all inside = counted-row cs xs d all inside
row_values (multivalued_shape cs) xs d all inside = counted-row cs xs d all inside

-- a row without values
row-none : {T : Type 0} (s : Shape) (xs : List T) (d : ℕ) → count_in s d ≡ 0 → row_at (rows_by s xs) d ≡ []
unfolding rows_by
row-none (empty_shape m) xs d none = row-empty m xs d
row-none full_shape xs d none = absurd (omega (arith, none))
row-none (optional_shape cs) xs d none = row_at-cut cs xs d ∙ ap (λ n. take n (drop (start_of cs d) xs)) none
row-none (multivalued_shape cs) xs d none = row_at-cut cs xs d ∙ ap (λ n. take n (drop (start_of cs d) xs)) none

-- the same from 0 to 0 where there are none
pub row_values-if_any : {T : Type 0} (s : Shape) (xs : List T) (d : ℕ) → IsCounted s (length xs)
    → d < row_count s (length xs) → AreOf xs (positions_if_any s d) (row_at (rows_by s xs) d)
row_values-if_any s xs d counted inside = go (count_in s d == 0) refl
  where
    go : (b : Bool) → (count_in s d == 0) ≡ b → AreOf xs (cond b (0, 0) (positions_in s d)) (row_at (rows_by s xs) d)
    go true e = record {
      order = omega arith;
      within = omega arith;
      values = sym (row-none s xs d (eqb-true _ _ e));
    }
    go false e = row_values s xs d counted inside

-- the same of a column
pub column_row : {V T : Type 0} (list : V → List T) (c : Seen V) (s : Shape) (v : V) (d start end : ℕ)
    → record { shape = s; values = v } ≡ c → IsCounted s (length (list v)) → d < num_docs_in list c
    → start ≡ (positions_if_any s d).0 → end ≡ (positions_if_any s d).1
    → AreOf (list c.values) (start, end) (row_at (rows_of_values list c) d)
column_row list c s v d start end is counted inside first last =
    subst (λ c. d < num_docs_in list c → AreOf (list c.values) (start, end) (row_at (rows_of_values list c) d)) is
    (λ within. rw (first, last) (row_values-if_any s (list v) d counted within)) inside
