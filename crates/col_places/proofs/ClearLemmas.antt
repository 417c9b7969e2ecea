-- Rows whose bit isn't set.
use Rattle.std.proofs.Common.{◌≡◌, ⊎_elim, ◌||◌, ℕ, zero, suc, ◌+◌, ◌-◌, ◌*◌, ◌/◌, ◌%◌, ◌<◌, ◌≤◌, not, Bool, true, false, cond, eqb, List, [], ◌∷◌, ◌++◌, length, take, get_or, map, filter, replicate, refl, sym, ap, ◌∙◌, arith}
use Rattle.std.specs.List.{range_with_len}
use Rattle.std.proofs.lemmas.Bool.{eq-eqb, cases_lt}
use Rattle.std.specs.Int.{bit_at}
use Rattle.std.proofs.lemmas.Nat.Bits.{bit_at-zero}
use Rattle.std.proofs.lemmas.List.{get_or-replicate, length-append, map-append, take_more}
use Rattle.std.proofs.lemmas.List.Elements.{filter-append}
use Rattle.col_common.specs.Flags.{flag_at}
use Rattle.col_model.proofs.ListLaws.{range-more}
use Rattle.col_query.proofs.SetLemmas.{same_docs}
use Rattle.col_places.specs.Bits.{clear_places, clear_rows, is_clear, set_below}
use Rattle.col_places.specs.Places.{are_places, is_listed, places_of}
use Rattle.col_places.proofs.ListedLemmas.{range-places}
use Rattle.col_places.proofs.WalkLemmas.{places-first, places-last, places-rest, places-moved, places-taken, places-passed, places-none, listed-behind, listed-below}

-- ---- one row more

clear-next : (words : List ℕ) (n : ℕ) → clear_rows words (n + 1) ≡ clear_rows words n ++ cond (is_clear words n) (n ∷ []) []
clear-next words n =
    ap (filter (is_clear words)) (range-more 0 n ∙ ap (λ m. range_with_len 0 n ++ m ∷ []) start)
    ∙ filter-append (is_clear words) (range_with_len 0 n) (n ∷ [])
  where
    start : 0 + n ≡ n
    start = omega arith

module _ (words : List ℕ) (n : ℕ) where
  pub clear-less : flag_at words n ≡ true → clear_rows words (n + 1) ≡ clear_rows words n
  clear-less is = clear-next words n ∙ ap (λ b. clear_rows words n ++ cond (not b) (n ∷ []) []) is ∙ nothing (clear_rows words n)
    where
      nothing : (xs : List ℕ) → xs ++ [] ≡ xs
      nothing [] = refl
      nothing (x ∷ xs) = ap (λ ys. x ∷ ys) (nothing xs)

  pub clear-more : flag_at words n ≡ false → clear_rows words (n + 1) ≡ clear_rows words n ++ n ∷ []
  clear-more is = clear-next words n ∙ ap (λ b. clear_rows words n ++ cond (not b) (n ∷ []) []) is

  -- there is one more
  pub clear-counts : flag_at words n ≡ false → length (clear_rows words (n + 1)) ≡ length (clear_rows words n) + 1
  clear-counts is = ap length (clear-more is) ∙ length-append (clear_rows words n) (n ∷ [])

-- the rows whose bit is set, and those whose bit isn't
pub clear-set : (words : List ℕ) (k : ℕ) → length (clear_rows words k) + set_below words k ≡ k
clear-set words zero = refl
clear-set words (suc k) = by (flag_at words k) refl (clear-set words k)
  where
    one : suc k ≡ k + 1
    one = omega arith

    next : length (clear_rows words (suc k)) ≡ length (clear_rows words (k + 1))
    next = ap (λ n. length (clear_rows words n)) one

    by : (b : Bool) → flag_at words k ≡ b → length (clear_rows words k) + set_below words k ≡ k
        → length (clear_rows words (suc k)) + (cond b 1 0 + set_below words k) ≡ suc k
    by true is was = omega (arith, was, next, ap length (clear-less words k is))
    by false is was = omega (arith, was, next, clear-counts words k is)

clear-fewer : (words : List ℕ) (j m : ℕ) → length (clear_rows words j) ≤ length (clear_rows words (j + m))
clear-fewer words j zero = omega (arith, ap (λ n. length (clear_rows words n)) same)
  where
    same : j + 0 ≡ j
    same = omega arith
clear-fewer words j (suc m) = by (flag_at words (j + m)) refl (clear-fewer words j m)
  where
    one : j + suc m ≡ j + m + 1
    one = omega arith

    next : length (clear_rows words (j + suc m)) ≡ length (clear_rows words (j + m + 1))
    next = ap (λ n. length (clear_rows words n)) one

    by : (b : Bool) → flag_at words (j + m) ≡ b → length (clear_rows words j) ≤ length (clear_rows words (j + m))
        → length (clear_rows words j) ≤ length (clear_rows words (j + suc m))
    by true is le = omega (arith, le, next, ap length (clear-less words (j + m) is))
    by false is le = omega (arith, le, next, clear-counts words (j + m) is)

-- no more rows stand before a row than before a later one
pub clear-upto : (words : List ℕ) (j n : ℕ) → j ≤ n → length (clear_rows words j) ≤ length (clear_rows words n)
clear-upto words j n le = omega (arith, clear-fewer words j (n - j), ap (λ n. length (clear_rows words n)) whole)
  where
    whole : j + (n - j) ≡ n
    whole = omega (arith, le)

-- and the row itself isn't among them
pub clear-within : (words : List ℕ) (row n : ℕ) → row < n → flag_at words row ≡ false
    → length (clear_rows words row) + 1 ≤ length (clear_rows words n)
clear-within words row n lt is = omega (arith, clear-counts words row is, clear-upto words (row + 1) n (omega (arith, lt)))

-- they are rows, and ascend
pub clear-rise : (words : List ℕ) (n : ℕ) → are_places 0 n (clear_rows words n) ≡ true
clear-rise words n = range-places (is_clear words) 0 n n (omega arith)

-- by other words, whose bits are the same
pub clear-same : (words other : List ℕ) (n : ℕ) → ((k : ℕ) → k < n → flag_at words k ≡ flag_at other k)
    → clear_rows words n ≡ clear_rows other n
clear-same words other n same = same_docs (is_clear words) (is_clear other) n (λ k lt. ap not (same k lt))

-- where no bit is set
pub clear-all : (words : List ℕ) (n : ℕ) → ((k : ℕ) → k < n → flag_at words k ≡ false) → clear_rows words n ≡ range_with_len 0 n
clear-all words zero none = refl
clear-all words (suc n) none =
    ap (clear_rows words) one ∙ clear-more words n (none n (omega arith))
    ∙ ap (λ rows. rows ++ n ∷ []) (clear-all words n (λ k lt. none k (omega (arith, lt))))
    ∙ ap (λ m. range_with_len 0 n ++ m ∷ []) start ∙ sym (range-more 0 n) ∙ ap (range_with_len 0) (sym one)
  where
    one : suc n ≡ n + 1
    one = omega arith

    start : n ≡ 0 + n
    start = omega arith

-- ---- their places

module _ (words : List ℕ) (first : ℕ) where
  abbrev from_row : ℕ → ℕ → List ℕ
  from_row k m = filter (is_clear words) (range_with_len k m)

  abbrev place : ℕ → ℕ
  place k = first + length (clear_rows words k)

  -- one row that is listed, or not
  place-free : (k : ℕ) → flag_at words k ≡ false → place k + 1 ≡ place (k + 1)
  place-free k is = omega (arith, clear-counts words k is)

  place-gone : (k : ℕ) → flag_at words k ≡ true → place k ≡ place (k + 1)
  place-gone k is = ap (λ rows. first + length rows) (sym (clear-less words k is))

  module _ (k m : ℕ) where
    abbrev rest : List ℕ
    rest = from_row (k + 1) m

    -- the first row isn't listed
    passed : (rows : List ℕ) (b : Bool) → flag_at words k ≡ b → is_listed rows k ≡ false
        → places_of (place k) (is_listed rows) (cond (not b) (k ∷ rest) rest) ≡ places_of (place (k + 1)) (is_listed rows) rest
    passed rows true is other = ap (λ n. places_of n (is_listed rows) rest) (place-gone k is)
    passed rows false is other =
        places-passed (place k) (is_listed rows) k rest other ∙ ap (λ n. places_of n (is_listed rows) rest) (place-free k is)

    -- it is the first one listed
    taken : (rows : List ℕ) (b : Bool) → flag_at words k ≡ b
        → places_of (place (k + 1)) (is_listed rows) rest ≡ clear_places first words rows
        → places_of (place k) (is_listed (k ∷ rows)) (cond (not b) (k ∷ rest) rest)
        ≡ map (λ row. place row) (cond (not b) (k ∷ filter (is_clear words) rows) (filter (is_clear words) rows))
    taken rows true is later = behind (place k) ∙ ap (λ n. places_of n (is_listed rows) rest) (place-gone k is) ∙ later
      where
        behind : (n : ℕ) → places_of n (is_listed (k ∷ rows)) rest ≡ places_of n (is_listed rows) rest
        behind n = listed-behind k (k + 1 + m) n rows rest (range-places (is_clear words) (k + 1) m (k + 1 + m) (omega arith))
    taken rows false is later =
        places-taken (place k) (is_listed (k ∷ rows)) k rest (ap (λ b. b || is_listed rows k) (eq-eqb k k refl))
        ∙ ap (λ ps. place k ∷ ps) (behind (place k + 1) ∙ ap (λ n. places_of n (is_listed rows) rest) (place-free k is) ∙ later)
      where
        behind : (n : ℕ) → places_of n (is_listed (k ∷ rows)) rest ≡ places_of n (is_listed rows) rest
        behind n = listed-behind k (k + 1 + m) n rows rest (range-places (is_clear words) (k + 1) m (k + 1 + m) (omega arith))

  -- the places of rows that ascend, among those from one on
  listed-from : (k m : ℕ) (rows : List ℕ) → are_places k (k + m) rows ≡ true
      → places_of (place k) (is_listed rows) (from_row k m) ≡ clear_places first words rows
  listed-from k m [] are = places-none (place k) (is_listed []) (from_row k m) (λ r. refl)
  listed-from k zero (row ∷ rows) are =
      let low = places-first k (k + 0) row rows are in
      let high = places-last k (k + 0) row rows are in
      absurd (omega (arith, low, high))
  listed-from k (suc m) (row ∷ rows) are =
      ⊎_elim
      (later (λ upto. listed-from (k + 1) m (row ∷ rows) upto))
      (here (λ rows upto. listed-from (k + 1) m rows upto))
      (cases_lt k row)
    where
      end_ : k + suc m ≡ k + 1 + m
      end_ = omega arith

      later : (are_places (k + 1) (k + 1 + m) (row ∷ rows) ≡ true
          → places_of (place (k + 1)) (is_listed (row ∷ rows)) (from_row (k + 1) m) ≡ clear_places first words (row ∷ rows))
          → k < row → places_of (place k) (is_listed (row ∷ rows)) (from_row k (suc m)) ≡ clear_places first words (row ∷ rows)
      later again lt =
          let moved = places-moved k (k + suc m) row rows are (k + 1) (omega (arith, lt)) in
          let upto = ap (λ n. are_places (k + 1) n (row ∷ rows)) (sym end_) ∙ moved in
          passed k m (row ∷ rows) (flag_at words k) refl (listed-below (k + 1) (k + 1 + m) (row ∷ rows) k upto (omega arith))
          ∙ again upto

      here : ((rows : List ℕ) → are_places (k + 1) (k + 1 + m) rows ≡ true
          → places_of (place (k + 1)) (is_listed rows) (from_row (k + 1) m) ≡ clear_places first words rows)
          → row ≤ k → places_of (place k) (is_listed (row ∷ rows)) (from_row k (suc m)) ≡ clear_places first words (row ∷ rows)
      here again le =
          let low = places-first k (k + suc m) row rows are in
          let same : row ≡ k = omega (arith, le, low) in
          let left = ap (λ n. are_places (n + 1) (k + suc m) rows) (sym same) ∙ places-rest k (k + suc m) row rows are in
          let upto = ap (λ n. are_places (k + 1) n rows) (sym end_) ∙ left in
          ap (λ r. places_of (place k) (is_listed (r ∷ rows)) (from_row k (suc m))) same
          ∙ taken k m rows (flag_at words k) refl (again rows upto)
          ∙ ap (λ r. clear_places first words (r ∷ rows)) (sym same)

-- the places of rows among all whose bit isn't set
pub listed-clear : (words : List ℕ) (first n : ℕ) (rows : List ℕ) → are_places 0 n rows ≡ true
    → places_of first (is_listed rows) (clear_rows words n) ≡ clear_places first words rows
listed-clear words first n rows are =
    ap (λ k. places_of k (is_listed rows) (clear_rows words n)) start
    ∙ listed-from words first 0 n rows (ap (λ m. are_places 0 m rows) whole ∙ are)
  where
    start : first ≡ first + 0
    start = omega arith

    whole : 0 + n ≡ n
    whole = omega arith

-- one row of them
module _ (words : List ℕ) (first row : ℕ) where
  pub place-none : flag_at words row ≡ true → clear_places first words (row ∷ []) ≡ []
  place-none is = ap (λ b. map (λ row. first + length (clear_rows words row)) (cond (not b) (row ∷ []) [])) is

  pub place-one : flag_at words row ≡ false → clear_places first words (row ∷ []) ≡ (first + length (clear_rows words row)) ∷ []
  place-one is = ap (λ b. map (λ row. first + length (clear_rows words row)) (cond (not b) (row ∷ []) [])) is

-- one row more
pub places-push : (words : List ℕ) (first : ℕ) (rows : List ℕ) (i : ℕ) → i < length rows
    → clear_places first words (take (i + 1) rows)
    ≡ clear_places first words (take i rows) ++ clear_places first words (get_or rows i 0 ∷ [])
places-push words first rows i within =
    ap (clear_places first words) (take_more rows i 0 within)
    ∙ ap (map (λ row. first + length (clear_rows words row))) (filter-append (is_clear words) (take i rows) (get_or rows i 0 ∷ []))
    ∙ map-append (λ row. first + length (clear_rows words row)) (filter (is_clear words) (take i rows))
    (filter (is_clear words) (get_or rows i 0 ∷ []))

-- words of zeros
pub clear-zeros : (count n : ℕ) → n ≤ 64 * count → clear_rows (replicate count 0) n ≡ range_with_len 0 n
clear-zeros count n room =
    clear-all (replicate count 0) n
    (λ k lt. ap (λ w. eqb (bit_at w (k % 64)) 1) (get_or-replicate count (k / 64) 0 0 (omega (arith, lt, room)))
    ∙ ap (λ b. eqb b 1) (bit_at-zero (k % 64)))
