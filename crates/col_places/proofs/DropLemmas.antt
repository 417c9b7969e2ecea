-- Rows that are dropped by their places.
use Rattle.std.proofs.Common.{◌≡◌, ◌≢◌, ⊎_elim, ◌||◌, ◌==◌, ℕ, zero, suc, ◌+◌, ◌*◌, ◌<◌, ◌≤◌, Bool, true, false, List, [], ◌∷◌, ◌++◌, length, get_or, refl, sym, ap, ◌∙◌, arith}
use Rattle.std.specs.Prelude.{Result, Ok, Err, MatchResult, if◌then◌else◌}
use Rattle.std.specs.Result.{is_ok}
use Rattle.std.proofs.lemmas.Bool.{eq-eqb, ne_eqb, cases_lt}
use Rattle.std.proofs.lemmas.List.{append-nil}
use Rattle.col_common.specs.Flags.{flag_at}
use Rattle.col_places.specs.Bits.{clear_rows}
use Rattle.col_places.specs.Places.{is_listed, rows_without}
use Rattle.col_places.proofs.ClearLemmas.{clear-counts, clear-less, clear-more, clear-same}

-- ---- a place among those that ascend

among-true : (ids : List ℕ) (x i : ℕ) → i < length ids → get_or ids i 0 ≡ x → is_listed ids x ≡ true
among-true [] x i lt e = absurd (omega arith)
among-true (id ∷ ids) x zero lt e = ap (λ b. b || is_listed ids x) (eq-eqb id x e)
among-true (id ∷ ids) x (suc i) lt e = or_true (id == x) (among-true ids x i (omega arith) e)
  where
    or_true : (a : Bool) → is_listed ids x ≡ true → (a || is_listed ids x) ≡ true
    or_true true h = refl
    or_true false h = h

among-false : (ids : List ℕ) (x : ℕ) → ((k : ℕ) → k < length ids → get_or ids k 0 ≢ x) → is_listed ids x ≡ false
among-false [] x none = refl
among-false (id ∷ ids) x none = λ i. ne_eqb id x (none 0 (omega arith)) i || among-false ids x (λ k lt. none (suc k) (omega (arith, lt))) i

-- the items before a place are less, and those from it on are more
abbrev pub IsGapAt : List ℕ → ℕ → ℕ → Type 0
IsGapAt ids x i =
    (i ≤ length ids) × ((k : ℕ) → k < i → get_or ids k 0 < x) × ((k : ℕ) → i ≤ k → k < length ids → x < get_or ids k 0)

gap-other : (ids : List ℕ) (x i : ℕ) → IsGapAt ids x i → (k : ℕ) → k < length ids → get_or ids k 0 ≢ x
gap-other ids x i (le, below, above) k lt e =
    ⊎_elim
    (λ (less : k < i). let b = below k less in absurd (omega (arith, b, e)))
    (λ (more : i ≤ k). let a = above k more lt in absurd (omega (arith, a, e)))
    (cases_lt k i)

-- what a search by halves found
pub among-searched : (ids : List ℕ) (x : ℕ) (r : Result ℕ ℕ)
    → MatchResult r (λ i. (i < length ids) × (get_or ids i 0 ≡ x)) (IsGapAt ids x) → is_ok r ≡ is_listed ids x
among-searched ids x (Ok i) found = sym (among-true ids x i found.0 found.1)
among-searched ids x (Err i) gap = sym (among-false ids x (gap-other ids x i gap))

-- ---- one row more

-- the row, where its place isn't named
abbrev kept_row : List ℕ → ℕ → ℕ → List ℕ
kept_row ids place row = if is_listed ids place then [] else row ∷ []

without-push : (ids : List ℕ) (place : ℕ) (rows : List ℕ) (row : ℕ)
    → rows_without ids place (rows ++ row ∷ []) ≡ rows_without ids place rows ++ kept_row ids (place + length rows) row
without-push ids place [] row = ap (λ n. kept_row ids n row) (omega arith)
without-push ids place (r ∷ rows) row =
    by (is_listed ids place) (rows_without ids (place + 1) (rows ++ row ∷ [])) (rows_without ids (place + 1) rows)
    (kept_row ids (place + suc (length rows)) row)
    (without-push ids (place + 1) rows row ∙ ap (λ n. rows_without ids (place + 1) rows ++ kept_row ids n row) (omega arith))
  where
    by : (b : Bool) (all front last : List ℕ) → all ≡ front ++ last
        → (if b then all else r ∷ all) ≡ (if b then front else r ∷ front) ++ last
    by true all front last there = there
    by false all front last there = ap (λ rs. r ∷ rs) there

-- The rows below one were looked at, at whose places the next place follows, and some are left.
pub record Drops (ids : List ℕ) (first : ℕ) (old : List ℕ) (row place left : ℕ) (now : List ℕ) : Type 0 where
  pub long : length now ≡ length old
  pub next : place ≡ first + length (clear_rows old row)
  pub rows : clear_rows now row ≡ rows_without ids first (clear_rows old row)
  pub count : left ≡ length (clear_rows now row)
  pub same : (k : ℕ) → row ≤ k → k < 64 * length old → flag_at now k ≡ flag_at old k

module _ (ids : List ℕ) (first : ℕ) (old : List ℕ) (row place left : ℕ) (now : List ℕ) (was : Drops ids first old row place left now)
    (within : row < 64 * length old) where
  is_old : (b : Bool) → flag_at now row ≡ b → flag_at old row ≡ b
  is_old b is = sym (was.same row (omega arith) within) ∙ is

  -- a row whose bit was set
  pub drops-gone : flag_at now row ≡ true → Drops ids first old (row + 1) place left now
  drops-gone is =
      let less = clear-less old row (is_old true is) in
      record {
        long = was.long;
        next = was.next ∙ ap (λ rows. first + length rows) (sym less);
        rows = clear-less now row is ∙ was.rows ∙ ap (rows_without ids first) (sym less);
        count = was.count ∙ ap length (sym (clear-less now row is));
        same = λ k le lt. was.same k (omega (arith, le)) lt;
      }

  -- the rows that are left of one row more
  looked : flag_at now row ≡ false → (b : Bool) → is_listed ids place ≡ b
      → rows_without ids first (clear_rows old (row + 1))
      ≡ rows_without ids first (clear_rows old row) ++ (if b then [] else row ∷ [])
  looked is b listed =
      ap (rows_without ids first) (clear-more old row (is_old false is)) ∙ without-push ids first (clear_rows old row) row
      ∙ ap (λ n. rows_without ids first (clear_rows old row) ++ kept_row ids n row) (sym was.next)
      ∙ ap (λ c. rows_without ids first (clear_rows old row) ++ (if c then [] else row ∷ [])) listed

  further : flag_at now row ≡ false → place + 1 ≡ first + length (clear_rows old (row + 1))
  further is = omega (arith, was.next, clear-counts old row (is_old false is))

  -- a row that stays
  pub drops-kept : flag_at now row ≡ false → is_listed ids place ≡ false → Drops ids first old (row + 1) (place + 1) (left + 1) now
  drops-kept is other = record {
    long = was.long;
    next = further is;
    rows = clear-more now row is ∙ ap (λ rows. rows ++ row ∷ []) was.rows ∙ sym (looked is false other);
    count = omega (arith, was.count, clear-counts now row is);
    same = λ k le lt. was.same k (omega (arith, le)) lt;
  }

  -- a row whose bit is set now
  pub drops-one : (new : List ℕ) → flag_at now row ≡ false → is_listed ids place ≡ true → length new ≡ length now
      → flag_at new row ≡ true → ((k : ℕ) → k ≢ row → k < 64 * length now → flag_at new k ≡ flag_at now k)
      → Drops ids first old (row + 1) (place + 1) left new
  drops-one new is listed long here others =
      let less : clear_rows new (row + 1) ≡ clear_rows now row =
      clear-less new row here
      ∙ clear-same new now row (λ k lt. others k (λ e. omega (arith, e, lt)) (omega (arith, lt, within, was.long))) in
      record {
        long = long ∙ was.long;
        next = further is;
        rows = less ∙ was.rows ∙ sym (append-nil (rows_without ids first (clear_rows old row))) ∙ sym (looked is true listed);
        count = was.count ∙ ap length (sym less);
        same = λ k le lt. others k (λ e. omega (arith, e, le)) (omega (arith, lt, was.long)) ∙ was.same k (omega (arith, le)) lt;
      }
