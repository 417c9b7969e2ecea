-- Counts of rows, of which some have a value.
use Rattle.std.proofs.Common.{◌≡◌, ℕ, zero, suc, ◌+◌, ◌≤◌, ◌==◌, ◌||◌, nat_lt, true, cond, List, [], ◌∷◌, length, take, get_or, zip, find, unwrap_or, option_map, Some, refl, sym, ap, ◌∙◌, subst, inl, inr, arith}
use Rattle.std.specs.List.{AllByRecursion, sum, list_all}
use Rattle.std.proofs.lemmas.Bool.{ltb-true, eq-eqb, ne_eqb, cases_order, and_parts}
use Rattle.std.proofs.lemmas.List.Sums.{sum_by-cons}
use Rattle.std.proofs.lemmas.List.FromFn.{get_or-map-range_with_len, length-map-range_with_len}
use Rattle.std.proofs.lemmas.Grind.{same_number_lists}
use Rattle.col_common.specs.Ascending.{is_rising, AreBelow}
use Rattle.col_model.specs.Index.{count_beside, spread}
use Rattle.col_model.specs.Positions.{rank, start_of, starts_after}
use Rattle.col_index.specs.Sets.{holds}
use Rattle.col_index.proofs.RankLaws.{rank-cons_below, rank-cons_above, rank-none, rising_from, tail_rises}
use Rattle.col_index.proofs.HeldLaws.{holds-none}

-- from a row on: the rows with a value, their numbers of values, and the count of each row
pub data IsSpread : ℕ → List ℕ → List ℕ → List ℕ → Type 0 where
  -- from the end on no rows are left
  ended : {a : ℕ} → IsSpread a [] [] []
  -- a row without a value has the count 0
  without : {a : ℕ} {rows values cs : List ℕ} → IsSpread (suc a) rows values cs → IsSpread a rows values (0 ∷ cs)
  -- a row with values has their number as its count
  valued : {a v : ℕ} {rows values cs : List ℕ} → IsSpread (suc a) rows values cs → IsSpread a (a ∷ rows) (v ∷ values) (v ∷ cs)

-- no row is before the first
pub spread_from : {a : ℕ} {rows values cs : List ℕ} (b : ℕ) → b ≤ a → IsSpread a rows values cs → AllByRecursion (λ r. b ≤ r) rows
spread_from b h ended = tt
spread_from b h (without s) = spread_from b (omega arith) s
spread_from b h (valued s) = (h, spread_from b (omega arith) s)

-- each row with a value has a number of values
pub spread_length : {a : ℕ} {rows values cs : List ℕ} → IsSpread a rows values cs → length rows ≡ length values
spread_length ended = refl
spread_length (without s) = spread_length s
spread_length (valued s) = ap suc (spread_length s)

-- ---- a sum, a count and a start

-- the counts of all rows sum up to the values of those that have some
pub spread_sum : {a : ℕ} {rows values cs : List ℕ} → IsSpread a rows values cs → sum cs ≡ sum values
spread_sum ended = refl
spread_sum (without {cs = cs} s) = sum_by-cons (λ x. x) 0 cs ∙ omega (arith, spread_sum s)
spread_sum (valued {v = v} {values = values} {cs = cs} s) =
    sum_by-cons (λ x. x) v cs ∙ ap (λ n. v + n) (spread_sum s) ∙ sym (sum_by-cons (λ x. x) v values)

-- before a row stand the values of the rows before it
pub spread_start : {a : ℕ} {rows values cs : List ℕ} → IsSpread a rows values cs → (k t : ℕ) → t ≡ a + k
    → start_of cs k ≡ sum (take (rank rows t) values)
spread_start ended zero t e = refl
spread_start ended (suc k) t e = refl
spread_start (without {a = a} {rows = rows} {values = values} s) zero t e =
    ap (λ n. sum (take n values)) (sym (rank-none rows t (spread_from t (omega arith) s)))
spread_start (without {cs = cs} s) (suc k) t e = sum_by-cons (λ x. x) 0 (take k cs) ∙ omega (arith, spread_start s k t (omega arith))
spread_start (valued {a = a} {v = v} {rows = rows} {values = values} s) zero t e =
    ap (λ n. sum (take n (v ∷ values))) (sym (rank-cons_above a rows t (omega arith) ∙ rank-none rows t (spread_from t (omega arith) s)))
spread_start (valued {a = a} {v = v} {rows = rows} {values = values} {cs = cs} s) (suc k) t e =
    sum_by-cons (λ x. x) v (take k cs)
    ∙ ap (λ n. v + n) (spread_start s k t (omega arith))
    ∙ sym (sum_by-cons (λ x. x) v (take (rank rows t) values))
    ∙ ap (λ n. sum (take n (v ∷ values))) (sym (rank-cons_below a rows t (omega arith)))

-- a row has the count beside it, or none
pub spread_count : {a : ℕ} {rows values cs : List ℕ} → IsSpread a rows values cs → (k t : ℕ) → t ≡ a + k
    → get_or cs k 0 ≡ cond (holds rows t) (get_or values (rank rows t) 0) 0
spread_count ended k t e = refl
spread_count (without {rows = rows} {values = values} s) zero t e =
    ap (λ b. cond b (get_or values (rank rows t) 0) 0) (sym (holds-none rows t (spread_from (suc t) (omega arith) s)))
spread_count (without s) (suc k) t e = spread_count s k t (omega arith)
spread_count (valued {a = a} {v = v} {rows = rows} {values = values} s) zero t e =
    ap (λ n. get_or (v ∷ values) n 0) (sym (rank-cons_above a rows t (omega arith) ∙ rank-none rows t (spread_from t (omega arith) s)))
    ∙ ap (λ b. cond b (get_or (v ∷ values) (rank (a ∷ rows) t) 0) 0) (sym (ap (λ b. b || holds rows t) (eq-eqb a t (omega arith))))
spread_count (valued {a = a} {v = v} {rows = rows} {values = values} s) (suc k) t e =
    spread_count s k t (omega arith)
    ∙ ap (λ n. cond (holds rows t) (get_or (v ∷ values) n 0) 0) (sym (rank-cons_below a rows t (omega arith)))
    ∙ ap (λ b. cond (b || holds rows t) (get_or (v ∷ values) (rank (a ∷ rows) t) 0) 0) (sym (ne_eqb a t (λ f. omega arith)))

-- rows without a value start nothing
pub spread_starts : {a : ℕ} {rows values cs : List ℕ} (before : ℕ) → IsSpread a rows values cs
    → starts_after before cs ≡ starts_after before values
spread_starts before ended = refl
spread_starts before (without {cs = cs} s) = ap (λ n. starts_after n cs) (omega arith) ∙ spread_starts before s
spread_starts before (valued {v = v} s) = ap (λ later. cond (v == 0) later (before ∷ later)) (spread_starts (before + v) s)

-- ---- the list that the model has

beside-none : (rows values : List ℕ) (t : ℕ) → AllByRecursion (λ r. suc t ≤ r) rows → count_beside (zip rows values) t ≡ 0
beside-none [] values t h = refl
beside-none (r ∷ rows) [] t h = refl
beside-none (r ∷ rows) (v ∷ values) t h =
    ap (λ b. unwrap_or
    (option_map (λ (p : ℕ × ℕ). p.1) (cond b (Some (r, v)) (find (λ (p : ℕ × ℕ). p.0 == t) (zip rows values))))
    0) (ne_eqb r t (λ e. omega (arith, h.0)))
    ∙ beside-none rows values t h.1

spread_beside : {a : ℕ} {rows values cs : List ℕ} → IsSpread a rows values cs → (k t : ℕ) → t ≡ a + k
    → count_beside (zip rows values) t ≡ get_or cs k 0
spread_beside ended k t e = refl
spread_beside (without {rows = rows} {values = values} s) zero t e = beside-none rows values t (spread_from (suc t) (omega arith) s)
spread_beside (without s) (suc k) t e = spread_beside s k t (omega arith)
spread_beside (valued {a = a} {v = v} {rows = rows} {values = values} s) zero t e =
    ap (λ b. unwrap_or
    (option_map (λ (p : ℕ × ℕ). p.1) (cond b (Some (a, v)) (find (λ (p : ℕ × ℕ). p.0 == t) (zip rows values))))
    0) (eq-eqb a t (omega arith))
spread_beside (valued {a = a} {v = v} {rows = rows} {values = values} s) (suc k) t e =
    ap (λ b. unwrap_or
    (option_map (λ (p : ℕ × ℕ). p.1) (cond b (Some (a, v)) (find (λ (p : ℕ × ℕ). p.0 == t) (zip rows values))))
    0) (ne_eqb a t (λ f. omega arith))
    ∙ spread_beside s k t (omega arith)

-- the counts that spread the values over n rows are those of the function
pub spread_is : (n : ℕ) (rows values cs : List ℕ) → length cs ≡ n → IsSpread 0 rows values cs → spread n rows values ≡ cs
spread_is n rows values cs e s =
    let long = length-map-range_with_len (count_beside (zip rows values)) 0 n in
    same_number_lists (spread n rows values) cs (long ∙ sym e)
    (λ k h. get_or-map-range_with_len (count_beside (zip rows values)) 0 n k k 0 (omega (arith, long)) (omega arith)
    ∙ spread_beside s k k (omega arith))

some_spread : (n a m : ℕ) (rows values : List ℕ) → m ≡ a + n → is_rising rows ≡ true
    → AllByRecursion (λ r. a ≤ r) rows → AreBelow m rows → length rows ≡ length values
    → (cs : List ℕ) × (length cs ≡ n) × IsSpread a rows values cs
some_spread zero a m [] [] e up low high long = ([], refl, ended)
some_spread zero a m (r ∷ rows) values e up low high long = absurd (omega (arith, low.0, high.0))
some_spread zero a m [] (v ∷ values) e up low high long = absurd (omega arith)
some_spread (suc n) a m [] (v ∷ values) e up low high long = absurd (omega arith)
some_spread (suc n) a m (r ∷ rows) [] e up low high long = absurd (omega arith)
some_spread (suc n) a m [] [] e up low high long =
    let rest = some_spread n (suc a) m [] [] (omega arith) up tt tt long in
    (0 ∷ rest.0, omega (arith, rest.1), without rest.2)
some_spread (suc n) a m (r ∷ rows) (v ∷ values) e up low high long = elim (cases_order a r) [
  | inl same ↦
      let rest = some_spread n (suc a) m rows values (omega arith) (tail_rises r rows up)
      (rising_from (suc a) r rows up (omega arith)) high.1 (omega arith) in
      (v ∷ rest.0, omega (arith, rest.1), subst (λ x. IsSpread a (x ∷ rows) (v ∷ values) (v ∷ rest.0)) same (valued rest.2))
  | inr (inl below) ↦
      let rest = some_spread n (suc a) m (r ∷ rows) (v ∷ values) (omega arith) up
      (below, rising_from (suc a) r rows up (omega arith)) high long in
      (0 ∷ rest.0, omega (arith, rest.1), without rest.2)
  | inr (inr above) ↦ absurd (omega (arith, low.0))
]

-- rows that pass the test for being below n are below n
pub all_below : (n : ℕ) (rows : List ℕ) → list_all (λ r. nat_lt r n) rows ≡ true → AreBelow n rows
all_below n [] e = tt
all_below n (r ∷ rows) e =
    let parts = and_parts (nat_lt r n) (list_all (λ q. nat_lt q n) rows) e in
    (ltb-true r n parts.0, all_below n rows parts.1)

all_numbers : (rows : List ℕ) → AllByRecursion (λ r. 0 ≤ r) rows
all_numbers [] = tt
all_numbers (r ∷ rows) = (omega arith, all_numbers rows)

-- rising rows below a count
pub spread_counts : (n : ℕ) (rows values : List ℕ) → is_rising rows ≡ true → list_all (λ r. nat_lt r n) rows ≡ true
    → length rows ≡ length values → IsSpread 0 rows values (spread n rows values)
spread_counts n rows values up high long =
    let some = some_spread n 0 n rows values (omega arith) up (all_numbers rows) (all_below n rows high) long in
    subst (λ cs. IsSpread 0 rows values cs) (sym (spread_is n rows values some.0 some.1 some.2)) some.2
