-- Ranks in rising lists.
use Rattle.std.proofs.Common.{◌≡◌, ℕ, zero, suc, ◌+◌, ◌<◌, ◌≤◌, nat_lt, nat_le, true, cond, List, [], ◌∷◌, length, get_or, slice_get, Some, None, refl, sym, ap, ◌∙◌, inl, inr, arith}
use Rattle.std.specs.List.{AllByRecursion, list_all}
use Rattle.std.proofs.lemmas.Bool.{and_parts, lt-ltb, le-ltb, ltb-true, le-leb, lt-leb, cases_lt, cond-true, cond-false}
use Rattle.std.proofs.lemmas.List.Sums.{sum_by-cons, count_by-le-length}
use Rattle.std.proofs.lemmas.List.Elements.{All-from_recursion}
use Rattle.col_common.specs.Ascending.{is_rising, AreBelow}
use Rattle.col_model.specs.Index.{RowSet}
use Rattle.col_model.specs.Positions.{rank, next_row}
use Rattle.col_index.specs.Search.{IsNarrowed}
use Rattle.col_index.specs.Sets.{AreRows}

-- ---- one row more

-- a first item below the target raises the rank by one
pub rank-cons_below : (x : ℕ) (xs : List ℕ) (t : ℕ) → x < t → rank (x ∷ xs) t ≡ suc (rank xs t)
rank-cons_below x xs t h = sum_by-cons (λ r. cond (nat_lt r t) 1 0) x xs ∙ ap (λ b. cond b 1 0 + rank xs t) (lt-ltb x t h) ∙ omega arith

-- a first item that isn't below the target leaves the rank as it is
pub rank-cons_above : (x : ℕ) (xs : List ℕ) (t : ℕ) → t ≤ x → rank (x ∷ xs) t ≡ rank xs t
rank-cons_above x xs t h = sum_by-cons (λ r. cond (nat_lt r t) 1 0) x xs ∙ ap (λ b. cond b 1 0 + rank xs t) (le-ltb x t h) ∙ omega arith

-- ---- what rises

-- the rows with a value rise
pub rows_rise : (s : RowSet) → AreRows s → is_rising s.rows ≡ true
rows_rise s a = (and_parts (is_rising s.rows) (list_all (λ r. nat_lt r s.num_rows) s.rows) a).0

-- a rising list rises behind its first item
pub tail_rises : (x : ℕ) (xs : List ℕ) → is_rising (x ∷ xs) ≡ true → is_rising xs ≡ true
tail_rises x [] e = refl
tail_rises x (y ∷ ys) e = (and_parts (nat_lt x y) (is_rising (y ∷ ys)) e).1

-- what isn't above the first is above no other
pub rising_from : (b x : ℕ) (xs : List ℕ) → is_rising (x ∷ xs) ≡ true → b ≤ suc x → AllByRecursion (λ y. b ≤ y) xs
rising_from b x [] e h = tt
rising_from b x (y ∷ ys) e h =
    let parts = and_parts (nat_lt x y) (is_rising (y ∷ ys)) e in
    let up = ltb-true x y parts.0 in
    (omega arith, rising_from b y ys parts.1 (omega arith))

-- where no item is below a bound, none at any place is
pub all_at : (b : ℕ) (xs : List ℕ) (k : ℕ) → AllByRecursion (λ y. b ≤ y) xs → k < length xs → b ≤ get_or xs k 0
all_at b [] k a h = absurd (omega arith)
all_at b (x ∷ xs) zero a h = a.0
all_at b (x ∷ xs) (suc k) a h = all_at b xs k a.1 (omega arith)

-- where each item is below a bound, that at any place is
pub below_at : (b : ℕ) (xs : List ℕ) (k : ℕ) → AreBelow b xs → k < length xs → get_or xs k 0 < b
below_at b xs k a h = All-from_recursion (λ x. x < b) xs a k 0 h

-- ---- ranks

-- a number that no item is below has rank 0
pub rank-none : (xs : List ℕ) (t : ℕ) → AllByRecursion (λ y. t ≤ y) xs → rank xs t ≡ 0
rank-none [] t a = refl
rank-none (x ∷ xs) t a = rank-cons_above x xs t a.0 ∙ rank-none xs t a.1

-- a rank is at most the length of its list
pub rank-le-length : (xs : List ℕ) (t : ℕ) → rank xs t ≤ length xs
rank-le-length xs t = count_by-le-length (λ r. nat_lt r t) xs

-- a greater number has no smaller rank
pub rank-monotone : (xs : List ℕ) (t u : ℕ) → t ≤ u → rank xs t ≤ rank xs u
rank-monotone [] t u h = omega arith
rank-monotone (x ∷ xs) t u h =
    let rest = rank-monotone xs t u h in
    elim (cases_lt x t) [
      | inl b ↦ omega (arith, rank-cons_below x xs t b, rank-cons_below x xs u (omega arith))
      | inr a ↦ elim (cases_lt x u) [
        | inl c ↦ omega (arith, rank-cons_above x xs t a, rank-cons_below x xs u c)
        | inr d ↦ omega (arith, rank-cons_above x xs t a, rank-cons_above x xs u d)
      ]
    ]

-- a rank leads to its row and back
pub rank-at : (xs : List ℕ) (k : ℕ) → is_rising xs ≡ true → k < length xs → rank xs (get_or xs k 0) ≡ k
rank-at [] k e h = absurd (omega arith)
rank-at (x ∷ xs) zero e h = rank-cons_above x xs x (omega arith) ∙ rank-none xs x (rising_from x x xs e (omega arith))
rank-at (x ∷ xs) (suc k) e h =
    let above = all_at (suc x) xs k (rising_from (suc x) x xs e (omega arith)) (omega arith) in
    rank-cons_below x xs (get_or xs k 0) above ∙ ap suc (rank-at xs k (tail_rises x xs e) (omega arith))

-- rows before a rank are below its row
pub below_rank : (xs : List ℕ) (t i : ℕ) → is_rising xs ≡ true → i < rank xs t → get_or xs i 0 < t
below_rank [] t i e h = absurd (omega arith)
below_rank (x ∷ xs) t zero e h = elim (cases_lt x t) [
  | inl b ↦ b
  | inr a ↦ absurd (omega (arith, rank-cons_above x xs t a, rank-none xs t (rising_from t x xs e (omega arith))))
]
below_rank (x ∷ xs) t (suc i) e h = elim (cases_lt x t) [
  | inl b ↦ below_rank xs t i (tail_rises x xs e) (omega (arith, rank-cons_below x xs t b))
  | inr a ↦ absurd (omega (arith, rank-cons_above x xs t a, rank-none xs t (rising_from t x xs e (omega arith))))
]

-- those from it on are not
pub from_rank : (xs : List ℕ) (t i : ℕ) → is_rising xs ≡ true → rank xs t ≤ i → i < length xs → t ≤ get_or xs i 0
from_rank [] t i e h k = absurd (omega arith)
from_rank (x ∷ xs) t zero e h k = elim (cases_lt x t) [
  | inl b ↦ absurd (omega (arith, rank-cons_below x xs t b))
  | inr a ↦ a
]
from_rank (x ∷ xs) t (suc i) e h k = elim (cases_lt x t) [
  | inl b ↦ from_rank xs t i (tail_rises x xs e) (omega (arith, rank-cons_below x xs t b)) (omega arith)
  | inr a ↦ all_at t xs i (rising_from t x xs e (omega arith)) (omega arith)
]

-- the place where what is below a number ends is its rank
pub narrowed-rank : (xs : List ℕ) (t k : ℕ) → IsNarrowed xs t k k → k ≡ rank xs t
narrowed-rank [] t k n = omega (arith, n.within)
narrowed-rank (x ∷ xs) t zero n = sym (rank-none (x ∷ xs) t (all (x ∷ xs) (λ i h. n.above i (omega arith) h)))
  where
    all : (ys : List ℕ) → ((i : ℕ) → i < length ys → t ≤ get_or ys i 0) → AllByRecursion (λ y. t ≤ y) ys
    all [] f = tt
    all (y ∷ ys) f = (f 0 (omega arith), all ys (λ i h. f (suc i) (omega arith)))
narrowed-rank (x ∷ xs) t (suc k) n =
    let rest : IsNarrowed xs t k k = record {
      ordered = omega arith;
      within = omega (arith, n.within);
      below = λ i h. n.below (suc i) (omega arith);
      above = λ i h j. n.above (suc i) (omega arith) (omega arith);
    } in
    ap suc (narrowed-rank xs t k rest) ∙ sym (rank-cons_below x xs t (n.below 0 (omega arith)))

-- in a rising list the items before a rank are below the number, and the others aren't
pub rank-narrowed : (xs : List ℕ) (t k : ℕ) → is_rising xs ≡ true → k ≡ rank xs t → IsNarrowed xs t k k
rank-narrowed xs t k e h = record {
  ordered = omega arith;
  within = omega (arith, rank-le-length xs t);
  below = λ i b. below_rank xs t i e (omega arith);
  above = λ i a l. from_rank xs t i e (omega arith) l;
}

-- the first row that isn't before a target is that of its rank
pub next_row-rank : (xs : List ℕ) (t : ℕ) → is_rising xs ≡ true → next_row xs t ≡ slice_get xs (rank xs t)
next_row-rank [] t e = refl
next_row-rank (x ∷ xs) t e = elim (cases_lt x t) [
  | inl b ↦ cond-false (nat_le t x) (Some x) (next_row xs t) (lt-leb t x b) ∙ next_row-rank xs t (tail_rises x xs e)
      ∙ ap (slice_get (x ∷ xs)) (sym (rank-cons_below x xs t b))
  | inr a ↦ cond-true (nat_le t x) (Some x) (next_row xs t) (le-leb t x a)
      ∙ ap (slice_get (x ∷ xs)) (sym (rank-none (x ∷ xs) t (a, rising_from t x xs e (omega arith))))
]

-- ---- any list

-- nothing stands past the end
pub slice_get-none : (xs : List ℕ) (k : ℕ) → slice_get xs k ≡ None → length xs ≤ k
slice_get-none [] k e = omega arith
slice_get-none (x ∷ xs) zero e = absurd (cc)
slice_get-none (x ∷ xs) (suc k) e = omega (arith, slice_get-none xs k e)
