-- Documents that rise, and how many each row is.
use Rattle.std.proofs.Common.{◌≡◌, ◌<◌, ◌≤◌, ℕ, zero, suc, ◌+◌, List, [], ◌∷◌, length, map, replicate, Bool, true, false, cond, refl, sym, ◌∙◌, ap, arith, le-leb, lt-ltb}
use Rattle.std.specs.Prelude.{nat_lt, nat_le, nat_eq, ◌&&◌, ◌||◌, ◌==◌, count_by}
use Rattle.std.specs.List.{list_all, range_with_len}
use Rattle.std.proofs.lemmas.Bool.{and_parts, and_from}
use Rattle.std.proofs.lemmas.List.Sums.{sum_by-cons}
use Rattle.std.proofs.lemmas.List.{length-replicate, get_or-replicate}
use Rattle.std.proofs.lemmas.List.FromFn.{length-map-range_with_len, get_or-map-range_with_len}
use Rattle.std.proofs.lemmas.Grind.{same_number_lists}
use Rattle.col_common.specs.Ascending.{is_rising}
use Rattle.col_model.specs.Index.{RowSet, set_counts}
use Rattle.col_column.specs.Sets.{AreRows, holds}
use Rattle.col_column.proofs.CountLaws.{set_counts-at, length-set_counts}
use Rattle.col_column.proofs.RankLaws.{tail_rises}
use Rattle.col_writer_rows.specs.Counted.{counts_of_rows}

pub lower : (x y : ℕ) (ys : List ℕ) → x ≤ y → list_all (λ z. nat_lt y z) ys ≡ true → list_all (λ z. nat_lt x z) ys ≡ true
lower x y [] h e = refl
lower x y (z ∷ zs) h e =
    let parts = and_parts (nat_lt y z) (list_all (λ w. nat_lt y w) zs) e in
    and_from (nat_lt x z) _ (grind arith) (lower x y zs h parts.1)

-- in a rising list all items behind the first are above it
pub all_above : (x : ℕ) (xs : List ℕ) → is_rising (x ∷ xs) ≡ true → list_all (λ y. nat_lt x y) xs ≡ true
all_above x [] e = refl
all_above x (y ∷ ys) e =
    let parts = and_parts (nat_lt x y) (is_rising (y ∷ ys)) e in
    let less : x ≤ y = grind arith in
    and_from (nat_lt x y) _ parts.0 (lower x y ys less (all_above y ys parts.1))

-- a document that rises is counted once
pub none_counted : (x row : ℕ) (xs : List ℕ) → row ≤ x → list_all (λ y. nat_lt x y) xs ≡ true → count_by (λ y. y == row) xs ≡ 0
none_counted x row [] h e = refl
none_counted x row (y ∷ ys) h e =
    let parts = and_parts (nat_lt x y) (list_all (λ z. nat_lt x z) ys) e in
    let apart : (y == row) ≡ false = grind arith in
    sum_by-cons (λ z. cond (z == row) 1 0) y ys ∙ (λ i. cond (apart i) 1 0 + none_counted x row ys h parts.1 i)

pub counted_once : (docs : List ℕ) (row : ℕ) → is_rising docs ≡ true → count_by (λ x. x == row) docs ≡ cond (holds docs row) 1 0
counted_once [] row e = refl
counted_once (x ∷ xs) row e =
    sum_by-cons (λ z. cond (z == row) 1 0) x xs ∙ by (x == row) refl (counted_once xs row (tail_rises x xs e))
  where
    by : (b : Bool) → (x == row) ≡ b → count_by (λ y. y == row) xs ≡ cond (holds xs row) 1 0
        → cond b 1 0 + count_by (λ y. y == row) xs ≡ cond (b || holds xs row) 1 0
    by true f later =
        let none : count_by (λ y. y == row) xs ≡ 0 = none_counted x row xs (grind arith) (all_above x xs e) in omega
        (arith, none)
    by false f later = let same = later in omega (arith, same)

-- the counts of the rows
pub counts-rising : (n : ℕ) (docs : List ℕ) → is_rising docs ≡ true → list_all (λ r. nat_lt r n) docs ≡ true
    → set_counts (record { num_rows = n; rows = docs }) ≡ counts_of_rows n docs
unfolding counts_of_rows
counts-rising n docs e below =
    let s : RowSet = record { num_rows = n; rows = docs } in
    let rows : AreRows s = and_from _ _ e below in
    same_number_lists (set_counts s) (map (λ d. count_by (λ x. x == d) docs) (range_with_len 0 n))
    (length-set_counts s ∙ sym (length-map-range_with_len (λ d. count_by (λ x. x == d) docs) 0 n))
    (λ k l. set_counts-at s rows k ∙ sym (counted_once docs k e)
    ∙ sym (get_or-map-range_with_len (λ d. count_by (λ x. x == d) docs) 0 n k k 0
    (omega (arith, l, length-set_counts s)) (omega arith)))

within_next : (a n x : ℕ) (xs : List ℕ) → a ≤ x → list_all (λ y. nat_lt x y) xs ≡ true
    → list_all (λ r. nat_le a r && nat_lt r (a + suc n)) xs ≡ true
    → list_all (λ r. nat_le (a + 1) r && nat_lt r ((a + 1) + n)) xs ≡ true
within_next a n x [] h above within = refl
within_next a n x (y ∷ ys) h above within =
    let up = and_parts (nat_lt x y) (list_all (λ z. nat_lt x z) ys) above in
    let parts = and_parts (nat_le a y && nat_lt y (a + suc n)) (list_all (λ r. nat_le a r && nat_lt r (a + suc n)) ys) within in
    let here = and_parts (nat_le a y) (nat_lt y (a + suc n)) parts.0 in
    let more : x < y = grind arith in
    let less : y < a + suc n = grind arith in
    let low : a + 1 ≤ y = omega arith in
    let high : y < (a + 1) + n = omega arith in
    and_from _ _ (and_from _ _ (le-leb _ _ low) (lt-ltb _ _ high)) (within_next a n x ys h up.1 parts.1)

first_is : (a n x : ℕ) (xs : List ℕ) → xs ≡ range_with_len (a + 1) n → list_all (λ y. nat_lt x y) xs ≡ true → a ≤ x → x < a + suc n → x ≡ a
first_is a zero x xs is above low high = omega arith
first_is a (suc n) x xs is above low high =
    let parts = and_parts (nat_lt x (a + 1)) (list_all (λ y. nat_lt x y) (range_with_len (a + 1 + 1) n))
    (ap (list_all (λ y. nat_lt x y)) (sym is) ∙ above) in
    let less : x < a + 1 = grind arith in
    omega arith

-- documents that rise and are as many as rows are the rows
pub all_rows : (a n : ℕ) (docs : List ℕ) → is_rising docs ≡ true
    → list_all (λ r. nat_le a r && nat_lt r (a + n)) docs ≡ true → length docs ≡ n → docs ≡ range_with_len a n
all_rows a zero [] e within many = refl
all_rows a zero (x ∷ xs) e within many = absurd (omega arith)
all_rows a (suc n) [] e within many = absurd (omega arith)
all_rows a (suc n) (x ∷ xs) e within many =
    let parts = and_parts (nat_le a x && nat_lt x (a + suc n)) (list_all (λ r. nat_le a r && nat_lt r (a + suc n)) xs) within in
    let here = and_parts (nat_le a x) (nat_lt x (a + suc n)) parts.0 in
    let above = all_above x xs e in
    let low : a ≤ x = grind arith in
    let high : x < a + suc n = grind arith in
    let rest = all_rows (a + 1) n xs (tail_rises x xs e) (within_next a n x xs low above parts.1) (omega arith) in
    λ i. first_is a n x xs rest above low high i ∷ rest i

from_none : (n : ℕ) (docs : List ℕ) → list_all (λ r. nat_lt r n) docs ≡ true → list_all (λ r. nat_le 0 r && nat_lt r (0 + n)) docs ≡ true
from_none n [] h = refl
from_none n (x ∷ xs) h =
    let parts = and_parts (nat_lt x n) (list_all (λ r. nat_lt r n) xs) h in
    let less : x < n = grind arith in
    let low : 0 ≤ x = omega arith in
    let high : x < 0 + n = omega arith in
    and_from _ _ (and_from _ _ (le-leb _ _ low) (lt-ltb _ _ high)) (from_none n xs parts.1)

held_in : (a n k : ℕ) → a ≤ k → k < a + n → holds (range_with_len a n) k ≡ true
held_in a zero k low high = absurd (omega arith)
held_in a (suc n) k low high = by (nat_eq a k) refl (λ h. held_in (a + 1) n k h (omega arith))
  where
    by : (b : Bool) → nat_eq a k ≡ b → (a + 1 ≤ k → holds (range_with_len (a + 1) n) k ≡ true)
        → (b || holds (range_with_len (a + 1) n) k) ≡ true
    by true e later = refl
    by false e later = let up : a + 1 ≤ k = grind arith in later up

-- each row of so many is counted once where the documents are the rows
pub counts-all : (n : ℕ) (docs : List ℕ) → is_rising docs ≡ true → list_all (λ r. nat_lt r n) docs ≡ true
    → length docs ≡ n → counts_of_rows n docs ≡ replicate n 1
unfolding counts_of_rows
counts-all n docs e below many =
    let is : docs ≡ range_with_len 0 n = all_rows 0 n docs e (from_none n docs below) many in
    let counted = λ (d : ℕ). count_by (λ x. x == d) docs in
    same_number_lists (map counted (range_with_len 0 n)) (replicate n 1)
    (length-map-range_with_len counted 0 n ∙ sym (length-replicate n 1))
    (λ k l.
    let low : k < n = omega (arith, l, length-map-range_with_len counted 0 n) in
    get_or-map-range_with_len counted 0 n k k 0 low (omega arith) ∙ counted_once docs k e
    ∙ ap (λ b. cond b 1 0) (ap (λ r. holds r k) is ∙ held_in 0 n k (omega arith) (omega arith)) ∙ sym (get_or-replicate n k 1 0 low))

-- each row of documents that rise has at most one
at_most : (docs : List ℕ) → is_rising docs ≡ true → (a m : ℕ)
    → list_all (λ c. nat_le c 1) (map (λ d. count_by (λ x. x == d) docs) (range_with_len a m)) ≡ true
at_most docs e a zero = refl
at_most docs e a (suc m) = and_from _ _ (ap (λ c. nat_le c 1) (counted_once docs a e) ∙ few (holds docs a)) (at_most docs e (a + 1) m)
  where
    few : (b : Bool) → nat_le (cond b 1 0) 1 ≡ true
    few true = refl
    few false = refl

-- rows have at most one value each where the documents rise
pub few-ones : (n : ℕ) (docs : List ℕ) → is_rising docs ≡ true → list_all (λ c. nat_le c 1) (counts_of_rows n docs) ≡ true
unfolding counts_of_rows
few-ones n docs e = at_most docs e 0 n
