-- Rows that have few values have few in all: as many as the greatest count for each row at most.
use Rattle.std.proofs.Common.{◌≡◌, ℕ, zero, suc, ◌+◌, ◌-◌, ◌*◌, ◌<◌, ◌≤◌, ◌^◌, ◌==◌, Bool, true, false, List, [], ◌∷◌, length, map, zip, drop, get_or, slice_get, replicate, unwrap_or, Option, Some, min, max, cond, refl, sym, ap, subst, ◌∙◌, suc-mul, arith}
use Rattle.std.specs.List.{sum, range_with_len}
use Rattle.std.specs.Option.{option_map}
use Rattle.std.specs.Prelude.{nat_le, find, if◌then◌else◌}
use Rattle.std.proofs.Math.ListN.{get_or-eq_default}
use Rattle.std.proofs.lemmas.Bool.{lt-leb, eqb-true}
use Rattle.std.proofs.lemmas.List.{drop_more, drop_all}
use Rattle.std.proofs.lemmas.List.Sums.{sum_by-cons}
use Rattle.std.proofs.lemmas.Option.{get_or_from_slice_get}
use Rattle.col_index.specs.Indexes.{shape_of}
use Rattle.col_index.specs.Offsets.{changes_behind, without_repeats}
use Rattle.col_index.specs.declared.column_index.ColumnIndex.{ColumnIndex}
use Rattle.col_indexer.proofs.CountedLemmas.{starts_after-some}
use Rattle.col_merge_column.specs.Limits.{StepsAtMost, HasAtMost, HaveAtMost}
use Rattle.col_model.specs.Index.{RowSet, empty_shape, count_beside, set_counts}
use Rattle.col_model.specs.Positions.{count_in, picked_counts, starts_after, starts_of}

first-or : (b : Bool) (later : Option (ℕ × ℕ)) (r : ℕ) → unwrap_or (option_map (λ p. p.1) later) 0 ≤ 1
    → unwrap_or (option_map (λ p. p.1) (if b then Some (r, 1) else later)) 0 ≤ 1
first-or true later r h = omega arith
first-or false later r h = h

-- beside a row stands 1, or nothing
beside-one : (rows : List ℕ) (row : ℕ) → count_beside (zip rows (replicate (length rows) 1)) row ≤ 1
beside-one [] row = omega arith
beside-one (r ∷ rs) row = first-or (r == row) (find (λ p. p.0 == row) (zip rs (replicate (length rs) 1))) r (beside-one rs row)

-- what a function has at most, its table has at most
table-at-most : (f : ℕ → ℕ) → ((row : ℕ) → f row ≤ 1) → (a n k : ℕ) → get_or (map f (range_with_len a n)) k 0 ≤ 1
table-at-most f h a zero k =
    let none : get_or (map f (range_with_len a zero)) k 0 ≡ 0 = get_or-eq_default [] 0 {n = k} (omega arith) in
    omega (arith, none)
table-at-most f h a (suc n) zero = h a
table-at-most f h a (suc n) (suc k) = table-at-most f h (a + 1) n k

-- a row of a set has at most one value
pub single-row : (s : RowSet) (row : ℕ) → get_or (set_counts s) row 0 ≤ 1
single-row s row = table-at-most (count_beside (zip s.rows (replicate (length s.rows) 1))) (beside-one s.rows) 0 s.num_rows row

-- ---- steps between starts

-- a count in front of others
first-row : (c m : ℕ) (cs : List ℕ) → c ≤ m → ((row : ℕ) → get_or cs row 0 ≤ m) → (row : ℕ) → get_or (c ∷ cs) row 0 ≤ m
first-row c m cs h rest zero = h
first-row c m cs h rest (suc k) = rest k

no-row : (m row : ℕ) → get_or [] row 0 ≤ m
no-row m zero = omega arith
no-row m (suc k) = omega arith

-- no row has more values than the greatest step between starts
steps-counts : (m b0 b : ℕ) (cs : List ℕ) → StepsAtMost m b0 (starts_after b cs) → (b ≤ b0 + m) × ((row : ℕ) → get_or cs row 0 ≤ m)
unfolding StepsAtMost
steps-counts m b0 b [] h = (h.0, λ row. no-row m row)
steps-counts m b0 b (zero ∷ cs) h =
    let rest = steps-counts m b0 (b + 0) cs h in
    (omega (arith, rest.0), first-row 0 m cs (omega arith) rest.1)
steps-counts m b0 b (suc c ∷ cs) h =
    let all = subst (StepsAtMost m b0) (starts_after-some b c cs) h in
    let rest = steps-counts m b (b + suc c) cs all.1 in
    (all.0, first-row (suc c) m cs (omega (arith, rest.0)) rest.1)

-- steps stay small where an item that equals the one before it is left out, behind a number ..
steps-changes : (m last : ℕ) (xs : List ℕ) → StepsAtMost m last xs → StepsAtMost m last (changes_behind last xs)
unfolding StepsAtMost
steps-changes m last [] h = tt
steps-changes m last (x ∷ xs) h = go (x == last) refl (steps-changes m x xs h.1)
  where
    go : (b : Bool) → (x == last) ≡ b → StepsAtMost m x (changes_behind x xs)
        → StepsAtMost m last (cond b (changes_behind x xs) (x ∷ changes_behind x xs))
    go true e more = subst (λ y. StepsAtMost m y (changes_behind x xs)) (eqb-true x last e) more
    go false e more = (h.0, more)

-- .. and in a list
steps-without : (m b : ℕ) (xs : List ℕ) → StepsAtMost m b xs → StepsAtMost m b (without_repeats xs)
unfolding StepsAtMost
steps-without m b [] h = tt
steps-without m b (x ∷ xs) h = (h.0, steps-changes m x xs h.1)

-- the same where the offsets are those of an index
pub steps-row : (m : ℕ) (cs starts : List ℕ) → without_repeats starts ≡ starts_of cs → StepsAtMost m 0 starts
    → (row : ℕ) → get_or cs row 0 ≤ m
unfolding starts_of
steps-row m cs starts e h = (steps-counts m 0 0 cs (subst (StepsAtMost m 0) e (steps-without m 0 starts h))).1

-- one index more was looked at
pub one-index : (indexes : List ColumnIndex) (k most n g : ℕ) (i : ColumnIndex) → k < length indexes
    → i ≡ get_or indexes k i → HasAtMost most i → n ≡ max most g
    → ((m : ℕ) → g ≤ m → HaveAtMost m (drop k indexes) → HaveAtMost m indexes) → (m : ℕ) → n ≤ m
    → HaveAtMost m (drop (k + 1) indexes) → HaveAtMost m indexes
one-index indexes k most n g i h is few e before m le rest =
    let split = drop_more indexes k i h ∙ ap (λ x. x ∷ drop (k + 1) indexes) (sym is) in
    before m (omega arith) (subst (HaveAtMost m) (sym split) (λ row. omega (arith, few row), rest))

-- one step more was looked at
pub one-step : (xs : List ℕ) (k x b g n : ℕ) → k < length xs → slice_get xs k ≡ Some x → n ≡ max (x - b) g
    → ((m : ℕ) → g ≤ m → StepsAtMost m b (drop k xs) → StepsAtMost m 0 xs) → (m : ℕ) → n ≤ m
    → StepsAtMost m x (drop (k + 1) xs) → StepsAtMost m 0 xs
unfolding StepsAtMost
one-step xs k x b g n h read is before m le rest =
    let split = drop_more xs k x h ∙ ap (λ y. y ∷ drop (k + 1) xs) (get_or_from_slice_get xs k x x read) in
    before m (omega arith) (subst (StepsAtMost m b) (sym split) (omega arith, rest))

-- all steps were looked at
pub no-steps : (xs : List ℕ) (k b g : ℕ) → length xs ≤ k
    → ((m : ℕ) → g ≤ m → StepsAtMost m b (drop k xs) → StepsAtMost m 0 xs) → StepsAtMost g 0 xs
unfolding StepsAtMost
no-steps xs k b g h before = before g (omega arith) (subst (StepsAtMost g b) (sym (drop_all k xs h)) tt)

-- ---- rows of several indexes

-- a row of any segment
at-most : (m : ℕ) (indexes : List ColumnIndex) (k row : ℕ) → HaveAtMost m indexes
    → count_in (get_or (map shape_of indexes) k (empty_shape 0)) row ≤ m
at-most m [] zero row h = omega arith
at-most m [] (suc k) row h = omega arith
at-most m (i ∷ is) zero row h = h.0 row
at-most m (i ∷ is) (suc k) row h = at-most m is k row h.1

few-picked : (m : ℕ) (indexes : List ColumnIndex) (picks : List (ℕ × ℕ)) → HaveAtMost m indexes
    → sum (picked_counts (map shape_of indexes) picks) ≤ length picks * m
unfolding picked_counts
few-picked m indexes [] h = omega arith
few-picked m indexes (p ∷ ps) h =
    omega (
      arith,
      sum_by-cons (λ x. x) (count_in (get_or (map shape_of indexes) p.0 (empty_shape 0)) p.1)
          (picked_counts (map shape_of indexes) ps),
      at-most m indexes p.0 p.1 h,
      few-picked m indexes ps h,
      suc-mul (length ps) m,
    )

-- 32 bits count the values of picks where they count the greatest count for each
pub none-many : (m n product : ℕ) (indexes : List ColumnIndex) (picks : List (ℕ × ℕ)) → HaveAtMost m indexes
    → n ≡ length picks → product ≡ min (n * m) (2 ^ 64 - 1) → product < 2 ^ 32
    → false ≡ nat_le (2 ^ 32) (sum (picked_counts (map shape_of indexes) picks))
none-many m n product indexes picks h many is few =
    let whole : n * m ≡ length picks * m = ap (λ k. k * m) many in
    sym (lt-leb (2 ^ 32) (sum (picked_counts (map shape_of indexes) picks)) (omega (arith, few-picked m indexes picks h, whole)))
