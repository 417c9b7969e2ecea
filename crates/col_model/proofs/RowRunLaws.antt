-- The runs of rows that rise are runs, and have these rows.
use Rattle.std.proofs.Common.{◌≡◌, ℕ, zero, suc, ◌+◌, ◌<◌, ◌≤◌, ◌==◌, ◌&&◌, nat_lt, Bool, true, List, [], ◌∷◌, ◌++◌, length, map, flat_map, drop, refl, sym, ap, ◌∙◌, inl, inr, arith, zip, add-one, subst, cond, slice_get, Some}
use Rattle.std.specs.List.{list_all, range_with_len, sum}
use Rattle.std.proofs.lemmas.Bool.{and_parts, and_from, ltb-true, lt-ltb, eq-eqb, ne_eqb, cases_eq}
use Rattle.std.proofs.lemmas.List.{length-map}
use Rattle.std.proofs.lemmas.Option.{same_Some, none-some}
use Rattle.std.proofs.lemmas.List.Sums.{sum_by-cons}
use Rattle.col_common.specs.Ascending.{is_rising, are_below, AreBelow}
use Rattle.col_model.specs.Index.{run_rows, run_ends, are_runs, before_runs, runs_of, run_starts, run_lengths}

-- ---- the rows of runs, as a list of pairs

-- starts and lengths beside each other are the runs
zip-parts : (rs : List (ℕ × ℕ)) → zip (run_starts rs) (run_lengths rs) ≡ rs
zip-parts [] = refl
zip-parts (r ∷ rs) = ap (λ ps. r ∷ ps) (zip-parts rs)

-- the rows of runs
abbrev pub rows_in : List (ℕ × ℕ) → List ℕ
rows_in rs = flat_map (λ r. range_with_len r.0 r.1) rs

range-front : (a n : ℕ) → range_with_len a (n + 1) ≡ a ∷ range_with_len (a + 1) n
range-front a n = rw add-one refl

before-rows : (row : ℕ) (rs : List (ℕ × ℕ)) → rows_in (before_runs row rs) ≡ row ∷ rows_in rs
before-rows row [] = refl
before-rows row (r ∷ rs) = elim (cases_eq (row + 1) r.0) [
  | inl e ↦
      rw (eq-eqb (row + 1) r.0 e)
      (ap (λ xs. xs ++ rows_in rs) (range-front row r.1 ∙ ap (λ a. row ∷ range_with_len a r.1) e))
  | inr n ↦ rw (ne_eqb (row + 1) r.0 n) refl
]

-- the runs of rows have these rows
pub runs-rows : (rows : List ℕ) → rows_in (runs_of rows) ≡ rows
unfolding runs_of
runs-rows [] = refl
runs-rows (row ∷ rows) = before-rows row (runs_of rows) ∙ ap (λ xs. row ∷ xs) (runs-rows rows)

-- the runs of rows, as starts and lengths, have these rows
pub rows-of-runs : (rows : List ℕ) → run_rows (run_starts (runs_of rows)) (run_lengths (runs_of rows)) ≡ rows
rows-of-runs rows = ap rows_in (zip-parts (runs_of rows)) ∙ runs-rows rows

-- ---- runs that are apart

-- each run has a row and ends before the next one starts, the last one at most at a bound
abbrev ApartBelow : ℕ → List (ℕ × ℕ) → Type 0
ApartBelow n [] = Unit {0}
ApartBelow n (r ∷ []) = (0 < r.1) × (r.0 + r.1 ≤ n)
ApartBelow n (r ∷ s ∷ rs) = (0 < r.1) × (r.0 + r.1 < s.0) × ApartBelow n (s ∷ rs)

starts-rise : (n : ℕ) (rs : List (ℕ × ℕ)) → ApartBelow n rs → is_rising (run_starts rs) ≡ true
starts-rise n [] a = refl
starts-rise n (r ∷ []) a = refl
starts-rise n (r ∷ s ∷ rs) a =
    and_from (nat_lt r.0 s.0) (is_rising (run_starts (s ∷ rs))) (lt-ltb r.0 s.0 (omega arith)) (starts-rise n (s ∷ rs) a.2)

lengths-count : (n : ℕ) (rs : List (ℕ × ℕ)) → ApartBelow n rs → list_all (nat_lt 0) (run_lengths rs) ≡ true
lengths-count n [] a = refl
lengths-count n (r ∷ []) a = and_from (nat_lt 0 r.1) true (lt-ltb 0 r.1 a.0) refl
lengths-count n (r ∷ s ∷ rs) a =
    and_from (nat_lt 0 r.1) (list_all (nat_lt 0) (run_lengths (s ∷ rs))) (lt-ltb 0 r.1 a.0) (lengths-count n (s ∷ rs) a.2)

-- where runs end
abbrev ends_in : List (ℕ × ℕ) → List ℕ
ends_in rs = map (λ r. r.0 + r.1) rs

ends-apart : (n : ℕ) (rs : List (ℕ × ℕ)) → ApartBelow n rs
    → list_all (λ p. nat_lt p.0 p.1) (zip (ends_in rs) (drop 1 (run_starts rs))) ≡ true
ends-apart n [] a = refl
ends-apart n (r ∷ []) a = refl
ends-apart n (r ∷ s ∷ rs) a =
    and_from (nat_lt (r.0 + r.1) s.0) (list_all (λ p. nat_lt p.0 p.1) (zip (ends_in (s ∷ rs)) (run_starts rs)))
    (lt-ltb (r.0 + r.1) s.0 a.1) (ends-apart n (s ∷ rs) a.2)

-- runs that are apart end at most at the bound, the first one too
first-below : (n : ℕ) (r : ℕ × ℕ) (rs : List (ℕ × ℕ)) → ApartBelow n (r ∷ rs) → r.0 + r.1 ≤ n
first-below n r [] a = a.1
first-below n r (s ∷ rs) a = let later = first-below n s rs a.2 in omega arith

place-below : (n : ℕ) (rs : List (ℕ × ℕ)) (k : ℕ) (run : ℕ × ℕ) → ApartBelow n rs → slice_get rs k ≡ Some run → run.0 + run.1 ≤ n
place-below n [] k run a e = absurd (none-some run e)
place-below n (r ∷ []) zero run a e = subst (λ (r : ℕ × ℕ). r.0 + r.1 ≤ n) (same_Some r run e) a.1
place-below n (r ∷ []) (suc k) run a e = absurd (none-some run e)
place-below n (r ∷ s ∷ rs) zero run a e =
    subst (λ (r : ℕ × ℕ). r.0 + r.1 ≤ n) (same_Some r run e) (first-below n r (s ∷ rs) a)
place-below n (r ∷ s ∷ rs) (suc k) run a e = place-below n (s ∷ rs) k run a.2 e

ends-below : (n : ℕ) (rs : List (ℕ × ℕ)) → ApartBelow n rs → are_below (n + 1) (ends_in rs) ≡ true
ends-below n [] a = refl
ends-below n (r ∷ []) a = and_from (nat_lt (r.0 + r.1) (n + 1)) true (lt-ltb (r.0 + r.1) (n + 1) (omega arith)) refl
ends-below n (r ∷ s ∷ rs) a =
    let first = first-below n r (s ∷ rs) a in
    and_from (nat_lt (r.0 + r.1) (n + 1)) (are_below (n + 1) (ends_in (s ∷ rs)))
    (lt-ltb (r.0 + r.1) (n + 1) (omega arith)) (ends-below n (s ∷ rs) a.2)

five : (a b c d e : Bool) → a ≡ true → b ≡ true → c ≡ true → d ≡ true → e ≡ true → (a && b && c && d && e) ≡ true
five a b c d e p q r s t = rw (p, q, r, s, t) refl

-- runs that are apart pass the test of runs
apart-runs : (n : ℕ) (rs : List (ℕ × ℕ)) → ApartBelow n rs → are_runs n (run_starts rs) (run_lengths rs) ≡ true
apart-runs n rs a =
    let starts = run_starts rs in
    let lengths = run_lengths rs in
    let ends = ap ends_in (zip-parts rs) in
    let apart = ap (λ es. list_all (λ p. nat_lt p.0 p.1) (zip es (drop 1 starts))) ends in
    five (length starts == length lengths) (is_rising starts) (list_all (nat_lt 0) lengths)
    (list_all (λ p. nat_lt p.0 p.1) (zip (run_ends starts lengths) (drop 1 starts)))
    (are_below (n + 1) (run_ends starts lengths))
    (eq-eqb (length starts) (length lengths) (length-map rs (λ r. r.0) ∙ sym (length-map rs (λ r. r.1))))
    (starts-rise n rs a) (lengths-count n rs a) (apart ∙ ends-apart n rs a)
    (ap (are_below (n + 1)) ends ∙ ends-below n rs a)

-- ---- the runs of rows that rise are apart

-- the first run begins at the first row
record BeginsAt (row : ℕ) (rs : List (ℕ × ℕ)) : Type 0 where
  run : ℕ
  later : List (ℕ × ℕ)
  is : rs ≡ (row, run) ∷ later

before-front : (row : ℕ) (rs : List (ℕ × ℕ)) → BeginsAt row (before_runs row rs)
before-front row [] = record { run = 1; later = []; is = refl }
before-front row (r ∷ rs) = elim (cases_eq (row + 1) r.0) [
  | inl e ↦ record { run = r.1 + 1; later = rs; is = rw (eq-eqb (row + 1) r.0 e) refl }
  | inr n ↦ record { run = 1; later = r ∷ rs; is = rw (ne_eqb (row + 1) r.0 n) refl }
]

-- a row in front of the first run makes it longer ..
joined-apart : (n row : ℕ) (r : ℕ × ℕ) (rs : List (ℕ × ℕ)) → row + 1 ≡ r.0 → ApartBelow n (r ∷ rs)
    → ApartBelow n ((row, r.1 + 1) ∷ rs)
joined-apart n row r [] e a = (omega arith, omega arith)
joined-apart n row r (s ∷ rs) e a = (omega arith, omega arith, a.2)

-- .. or is a run in front of it
before-apart : (n row : ℕ) (r : ℕ × ℕ) (rs : List (ℕ × ℕ)) → row < r.0 → ApartBelow n (r ∷ rs)
    → ApartBelow n (before_runs row (r ∷ rs))
before-apart n row r rs h a = elim (cases_eq (row + 1) r.0) [
  | inl e ↦ rw (eq-eqb (row + 1) r.0 e) (joined-apart n row r rs e a)
  | inr m ↦ rw (ne_eqb (row + 1) r.0 m) (omega arith, omega arith, a)
]

runs-apart : (n : ℕ) (rows : List ℕ) → is_rising rows ≡ true → are_below n rows ≡ true → ApartBelow n (runs_of rows)
unfolding runs_of
runs-apart n [] e b = tt
runs-apart n (row ∷ []) e b = let below = ltb-true row n (and_parts (nat_lt row n) true b).0 in (omega arith, omega arith)
runs-apart n (row ∷ next ∷ rows) e b =
    let up = and_parts (nat_lt row next) (is_rising (next ∷ rows)) e in
    let below = and_parts (nat_lt row n) (are_below n (next ∷ rows)) b in
    let first = before-front next (runs_of rows) in
    let later = subst (ApartBelow n) first.is (runs-apart n (next ∷ rows) up.1 below.1) in
    subst (λ rs. ApartBelow n (before_runs row rs)) (sym first.is)
    (before-apart n row (next, first.run) first.later (ltb-true row next up.0) later)

-- the runs of rows that rise and stay below a count pass the test of runs
pub are-runs-of : (n : ℕ) (rows : List ℕ) → is_rising rows ≡ true → are_below n rows ≡ true
    → are_runs n (run_starts (runs_of rows)) (run_lengths (runs_of rows)) ≡ true
are-runs-of n rows e b = apart-runs n (runs_of rows) (runs-apart n rows e b)

-- ---- how many rows runs hold

before-hold : (row : ℕ) (rs : List (ℕ × ℕ)) → sum (run_lengths (before_runs row rs)) ≡ sum (run_lengths rs) + 1
before-hold row [] = refl
before-hold row (r ∷ rs) =
    let more = sum_by-cons (λ n. n) (r.1 + 1) (run_lengths rs) in
    let apart = sum_by-cons (λ n. n) 1 (run_lengths (r ∷ rs)) in
    let first = sum_by-cons (λ n. n) r.1 (run_lengths rs) in
    elim (cases_eq (row + 1) r.0) [
      | inl e ↦ rw (eq-eqb (row + 1) r.0 e) (omega (arith, more, first))
      | inr n ↦ rw (ne_eqb (row + 1) r.0 n) (omega (arith, apart))
    ]

-- the lengths of the runs of rows come to as many as the rows
pub runs-hold : (rows : List ℕ) → sum (run_lengths (runs_of rows)) ≡ length rows
unfolding runs_of
runs-hold [] = refl
runs-hold (row ∷ rows) = omega (arith, before-hold row (runs_of rows), runs-hold rows)

-- ---- bounds of what is written

starts-within : (n m : ℕ) (rs : List (ℕ × ℕ)) → n ≤ m → ApartBelow n rs → AreBelow m (run_starts rs)
starts-within n m [] h a = tt
starts-within n m (r ∷ []) h a = (omega arith, tt)
starts-within n m (r ∷ s ∷ rs) h a =
    let first = first-below n r (s ∷ rs) a in (omega arith, starts-within n m (s ∷ rs) h a.2)

lengths-within : (n m : ℕ) (rs : List (ℕ × ℕ)) → n < m → ApartBelow n rs → AreBelow m (run_lengths rs)
lengths-within n m [] h a = tt
lengths-within n m (r ∷ []) h a = (omega arith, tt)
lengths-within n m (r ∷ s ∷ rs) h a =
    let first = first-below n r (s ∷ rs) a in (omega arith, lengths-within n m (s ∷ rs) h a.2)

-- runs start below a bound that isn't below the row count
pub run_starts-below : (n m : ℕ) (rows : List ℕ) → n ≤ m → is_rising rows ≡ true → are_below n rows ≡ true
    → AreBelow m (run_starts (runs_of rows))
run_starts-below n m rows h e b = starts-within n m (runs_of rows) h (runs-apart n rows e b)

-- runs are shorter than a bound above the row count
pub run_lengths-below : (n m : ℕ) (rows : List ℕ) → n < m → is_rising rows ≡ true → are_below n rows ≡ true
    → AreBelow m (run_lengths (runs_of rows))
run_lengths-below n m rows h e b = lengths-within n m (runs_of rows) h (runs-apart n rows e b)

before-few : (row : ℕ) (rs : List (ℕ × ℕ)) → length (before_runs row rs) ≤ length rs + 1
before-few row [] = omega arith
before-few row (r ∷ rs) = elim (cases_eq (row + 1) r.0) [
  | inl e ↦ rw (eq-eqb (row + 1) r.0 e) (omega arith)
  | inr n ↦ rw (ne_eqb (row + 1) r.0 n) (omega arith)
]

-- there are at most as many runs as rows
pub runs-few : (rows : List ℕ) → length (runs_of rows) ≤ length rows
unfolding runs_of
runs-few [] = omega arith
runs-few (row ∷ rows) = omega (arith, before-few row (runs_of rows), runs-few rows)

before-count : (row next len : ℕ) (later : List (ℕ × ℕ))
    → length (before_runs row ((next, len) ∷ later)) ≡ cond (row + 1 == next) 0 1 + length ((next, len) ∷ later)
before-count row next len later = elim (cases_eq (row + 1) next) [
  | inl e ↦ rw (eq-eqb (row + 1) next e) (omega arith)
  | inr n ↦ rw (ne_eqb (row + 1) next n) (omega arith)
]

-- a row in front of rows begins a run, but where it touches the first of them
pub runs-front : (row next : ℕ) (rows : List ℕ)
    → length (runs_of (row ∷ next ∷ rows)) ≡ cond (row + 1 == next) 0 1 + length (runs_of (next ∷ rows))
unfolding runs_of
runs-front row next rows =
    let first = before-front next (runs_of rows) in
    ap (λ rs. length (before_runs row rs)) first.is
    ∙ before-count row next first.run first.later
    ∙ ap (λ rs. cond (row + 1 == next) 0 1 + length rs) (sym first.is)

-- each run of rows that rise and stay below a count ends at most there
pub run-within : (n : ℕ) (rows : List ℕ) (k : ℕ) (run : ℕ × ℕ) → is_rising rows ≡ true → are_below n rows ≡ true
    → slice_get (runs_of rows) k ≡ Some run → run.0 + run.1 ≤ n
run-within n rows k run e b f = place-below n (runs_of rows) k run (runs-apart n rows e b) f
