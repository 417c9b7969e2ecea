-- Runs of rows, found from the front on.
use Rattle.std.proofs.Common.{◌≡◌, ℕ, zero, suc, ◌+◌, ◌-◌, ◌^◌, ◌<◌, ◌≤◌, ◌==◌, List, [], ◌∷◌, ◌++◌, length, get_or, take, drop, Bool, true, false, not, cond, refl, sym, ap, ◌∙◌, arith, append_assoc, subst}
use mir.Val.{bool_byte}
use Rattle.std.specs.Prelude.{slice_index}
use Rattle.std.specs.List.{range_with_len}
use Rattle.std.proofs.lemmas.List.{take_more, drop_more, take_all, drop_all, nil_from_length}
use Rattle.std.proofs.lemmas.List.Elements.{All-from_recursion}
use Rattle.col_common.specs.Ascending.{AreBelow}
use Rattle.col_model.specs.Index.{runs_of, run_rows, run_starts, run_lengths}
use Rattle.col_model.proofs.RowRunLaws.{rows-of-runs, runs-few, runs-front}
use Rattle.col_indexer.specs.Runs.{then_run, IsRunAt}
use Rattle.col_indexer.proofs.RunLemmas.{runs-then}

-- ---- how many rows follow one another

range-last : (a n : ℕ) → range_with_len a (suc n) ≡ range_with_len a n ++ (a + n) ∷ []
range-last a zero = ap (λ m. m ∷ []) (omega arith)
range-last a (suc n) =
    let last : a + 1 + n ≡ a + suc n = omega arith in
    ap (λ xs. a ∷ xs) (range-last (a + 1) n ∙ ap (λ m. range_with_len (a + 1) n ++ m ∷ []) last)

-- a row alone
pub run-first : (rows : List ℕ) (at : ℕ) → at < length rows → AreBelow (2 ^ 32 - 1) rows → IsRunAt rows at 1
run-first rows at h b =
    let below : slice_index rows at < 2 ^ 32 - 1 = All-from_recursion (λ x. x < 2 ^ 32 - 1) rows b at 0 h in
    record { some = omega arith; within = omega arith; follow = take_more rows at 0 h; below = omega arith }

-- one row more
pub run-more : (rows : List ℕ) (at len : ℕ) → IsRunAt rows at len → at + len < length rows
    → slice_index rows (at + len) ≡ slice_index rows at + len → AreBelow (2 ^ 32 - 1) rows → IsRunAt rows at (len + 1)
run-more rows at len r h e b =
    let some = r.some in
    let below : slice_index rows (at + len) < 2 ^ 32 - 1 = All-from_recursion (λ x. x < 2 ^ 32 - 1) rows b (at + len) 0 h in
    let front : take (at + len + 1) rows ≡ take (at + len) rows ++ slice_index rows (at + len) ∷ [] = take_more rows (at + len) 0 h in
    let more : at + (len + 1) ≡ at + len + 1 = omega arith in
    let long : suc len ≡ len + 1 = omega arith in
    record {
      some = omega arith;
      within = omega arith;
      follow =
          ap (λ n. take n rows) more ∙ front
          ∙ ap (λ xs. xs ++ slice_index rows (at + len) ∷ []) r.follow
          ∙ append_assoc (take at rows) (range_with_len (slice_index rows at) len) (slice_index rows (at + len) ∷ [])
          ∙ ap (λ n. take at rows ++ (range_with_len (slice_index rows at) len ++ n ∷ [])) e
          ∙ ap (λ xs. take at rows ++ xs) (sym (range-last (slice_index rows at) len))
          ∙ ap (λ n. take at rows ++ range_with_len (slice_index rows at) n) long;
      below = omega arith;
    }

-- ---- the runs of rows up to a place

-- none of no rows
pub found-none : (rows : List ℕ) → [] ≡ runs_of (take 0 rows)
unfolding runs_of
found-none rows = refl

-- rows and a run behind them
pub then-some : (rows : List ℕ) (start len : ℕ) → 0 < len
    → runs_of (rows ++ range_with_len start len) ≡ then_run (runs_of rows) (start, len)
then-some rows start zero h = absurd (omega arith)
then-some rows start (suc n) h = runs-then rows start n

-- those of some rows more that follow one another
pub found-more : (rows : List ℕ) (old new : List (ℕ × ℕ)) (at len : ℕ) → old ≡ runs_of (take at rows)
    → IsRunAt rows at len → new ≡ then_run old (slice_index rows at, len) → new ≡ runs_of (take (at + len) rows)
found-more rows old new at len e r g =
    g ∙ ap (λ rs. then_run rs (slice_index rows at, len)) e
    ∙ sym (then-some (take at rows) (slice_index rows at) len r.some) ∙ ap runs_of (sym r.follow)

-- those of all rows
pub found-all : (rows : List ℕ) (found : List (ℕ × ℕ)) (at : ℕ) → length rows ≤ at → found ≡ runs_of (take at rows)
    → found ≡ runs_of rows
found-all rows found at h e = e ∙ ap runs_of (take_all at rows h)

-- ---- how many runs there are

-- none of no rows
pub count-none : (rows : List ℕ) → length rows ≡ 0 → 0 ≡ length (runs_of rows)
unfolding runs_of
count-none rows h = ap (λ xs. length (runs_of xs)) (sym (nil_from_length rows h))

runs-rows : (rs : List (ℕ × ℕ)) (row : ℕ) (rows : List ℕ) → run_rows (run_starts rs) (run_lengths rs) ≡ row ∷ rows → 0 < length rs
runs-rows [] row rows e = cc
runs-rows (r ∷ rs) row rows e = omega arith

-- rows stand in a run at least
runs-some : (rows : List ℕ) (at : ℕ) → at < length rows → 0 < length (runs_of (drop at rows))
runs-some rows at h =
    runs-rows (runs_of (drop at rows)) (get_or rows at 0) (drop (at + 1) rows) (rows-of-runs (drop at rows) ∙ drop_more rows at 0 h)

flag : (b : Bool) → bool_byte (not b) ≡ cond b 0 1
flag true = refl
flag false = refl

-- what is counted of the runs that begin up to a place
abbrev pub CountedAt : List ℕ → ℕ → ℕ → Type 0
CountedAt rows at count = count + length (runs_of (drop at rows)) ≡ length (runs_of rows) + 1

-- a row more, with the one behind it
pub count-more : (rows : List ℕ) (at count : ℕ) → 1 ≤ at → at < length rows → CountedAt rows (at - 1) count
    → CountedAt rows at (count + bool_byte (not (slice_index rows (at - 1) + 1 == slice_index rows at)))
count-more rows at count low h k =
    let i = at - 1 in
    let x = slice_index rows i in
    let y = slice_index rows at in
    let next : i + 1 ≡ at = omega arith in
    let one : drop i rows ≡ x ∷ drop (i + 1) rows = drop_more rows i 0 (omega arith) in
    let two : drop at rows ≡ y ∷ drop (at + 1) rows = drop_more rows at 0 h in
    let both : drop i rows ≡ x ∷ y ∷ drop (at + 1) rows = one ∙ ap (λ n. x ∷ drop n rows) next ∙ ap (λ xs. x ∷ xs) two in
    omega (
      arith,
      k,
      flag (x + 1 == y),
      ap (λ xs. length (runs_of xs)) both ∙ runs-front x y (drop (at + 1) rows),
      ap (λ xs. length (runs_of xs)) two,
    )

-- the same at the next place
pub count-next : (rows : List ℕ) (at count : ℕ) → 1 ≤ at → at < length rows → CountedAt rows (at - 1) count
    → CountedAt rows (at + 1 - 1) (count + bool_byte (not (slice_index rows (at - 1) + 1 == slice_index rows at)))
count-next rows at count low h k =
    let back : at ≡ at + 1 - 1 = omega arith in
    let more = count + bool_byte (not (slice_index rows (at - 1) + 1 == slice_index rows at)) in
    subst (λ n. CountedAt rows n more) back (count-more rows at count low h k)

-- they are at most as many as the rows
pub count-most : (rows : List ℕ) (at count : ℕ) → at < length rows → CountedAt rows at count → count ≤ length rows
count-most rows at count h k = omega (arith, k, runs-some rows at h, runs-few rows)

single : (x : ℕ) → length (runs_of (x ∷ [])) ≡ 1
unfolding runs_of
single x = refl

-- all of them, where the last row begins the last one
pub count-all : (rows : List ℕ) (at count : ℕ) → 1 ≤ at → at ≡ length rows → CountedAt rows (at - 1) count
    → count ≡ length (runs_of rows)
count-all rows at count low h k =
    let i = at - 1 in
    let one : drop i rows ≡ get_or rows i 0 ∷ drop (i + 1) rows = drop_more rows i 0 (omega arith) in
    let none : drop (i + 1) rows ≡ [] = drop_all (i + 1) rows (omega arith) in
    let last : drop i rows ≡ get_or rows i 0 ∷ [] = one ∙ ap (λ xs. get_or rows i 0 ∷ xs) none in
    omega (arith, k, ap (λ xs. length (runs_of xs)) last ∙ single (get_or rows i 0))
