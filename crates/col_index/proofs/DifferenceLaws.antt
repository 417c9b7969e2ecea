-- Differences of rising numbers.
use Rattle.std.proofs.Common.{◌≡◌, ℕ, zero, suc, ◌+◌, ◌-◌, ◌<◌, ◌≤◌, ◌^◌, nat_lt, nat_le, true, cond, List, [], ◌∷◌, length, take, get_or, refl, sym, ap, ◌∙◌, arith}
use Rattle.std.specs.List.{AllByRecursion, sum, list_all}
use Rattle.std.proofs.lemmas.Bool.{ltb-true, leb-true, le-leb, ne_eqb, and_parts, and_from}
use Rattle.std.proofs.lemmas.List.Sums.{sum_by-cons}
use Rattle.col_common.specs.Ascending.{is_rising, is_never_falling, differences}
use Rattle.col_model.specs.Positions.{starts_after}
use Rattle.col_index.specs.Offsets.{is_start_list}
use Rattle.col_model.proofs.ListLaws.{length-differences}
use Rattle.col_index.proofs.StartLemmas.{start_list-parts}

-- what rises never falls
pub never_falls : (xs : List ℕ) → is_rising xs ≡ true → is_never_falling xs ≡ true
never_falls [] e = refl
never_falls (x ∷ []) e = refl
never_falls (x ∷ y ∷ zs) e =
    let parts = and_parts (nat_lt x y) (is_rising (y ∷ zs)) e in
    let up = ltb-true x y parts.0 in
    and_from (nat_le x y) (is_never_falling (y ∷ zs)) (le-leb x y (omega arith)) (never_falls (y ∷ zs) parts.1)

-- the difference at a place is what stands behind it less what stands there
pub get_or-differences : (xs : List ℕ) (k : ℕ) → suc k < length xs → get_or (differences xs) k 0 ≡ get_or xs (suc k) 0 - get_or xs k 0
get_or-differences [] k h = absurd (omega arith)
get_or-differences (x ∷ []) k h = absurd (omega arith)
get_or-differences (x ∷ y ∷ zs) zero h = refl
get_or-differences (x ∷ y ∷ zs) (suc k) h = get_or-differences (y ∷ zs) k (omega arith)

-- differences lead from the first number to each
pub sum-differences : (x : ℕ) (xs : List ℕ) (k : ℕ) → is_never_falling (x ∷ xs) ≡ true → k ≤ length xs
    → x + sum (take k (differences (x ∷ xs))) ≡ get_or (x ∷ xs) k 0
sum-differences x xs zero e h = omega arith
sum-differences x [] (suc k) e h = absurd (omega arith)
sum-differences x (y ∷ zs) (suc k) e h =
    let parts = and_parts (nat_le x y) (is_never_falling (y ∷ zs)) e in
    let up = leb-true x y parts.0 in
    let rest = sum-differences y zs k parts.1 (omega arith) in
    ap (λ n. x + n) (sum_by-cons (λ d. d) (y - x) (take k (differences (y ∷ zs)))) ∙ omega (arith, rest)

-- the differences of rising numbers are above 0
pub differences-positive : (xs : List ℕ) → is_rising xs ≡ true → AllByRecursion (λ d. 0 < d) (differences xs)
differences-positive [] e = tt
differences-positive (x ∷ []) e = tt
differences-positive (x ∷ y ∷ zs) e =
    let parts = and_parts (nat_lt x y) (is_rising (y ∷ zs)) e in
    let up = ltb-true x y parts.0 in
    (omega arith, differences-positive (y ∷ zs) parts.1)

-- counts that are differences start where the numbers say
pub starts_after-differences : (x : ℕ) (xs : List ℕ) → is_rising (x ∷ xs) ≡ true → starts_after x (differences (x ∷ xs)) ≡ x ∷ xs
starts_after-differences x [] e = refl
starts_after-differences x (y ∷ zs) e =
    let parts = and_parts (nat_lt x y) (is_rising (y ∷ zs)) e in
    let up = ltb-true x y parts.0 in
    ap (λ b. cond b (starts_after (x + (y - x)) (differences (y ∷ zs)))
    (x ∷ starts_after (x + (y - x)) (differences (y ∷ zs)))) (ne_eqb (y - x) 0 (λ f. omega arith))
    ∙ ap (λ n. x ∷ starts_after n (differences (y ∷ zs))) (omega arith)
    ∙ ap (λ more. x ∷ more) (starts_after-differences y zs parts.1)

-- ---- start offsets

-- the numbers behind the first, which is 0; they rise, and there is one more than rows
pub record Starts (n : ℕ) (starts : List ℕ) : Type 0 where
  pub rest : List ℕ
  pub first : starts ≡ 0 ∷ rest
  pub rises : is_rising starts ≡ true
  pub long : length starts ≡ suc n
  pub small : list_all (λ s. nat_lt s (2 ^ 32)) starts ≡ true

-- a list that passes the test for start offsets of n rows has what such offsets have
pub starts_parts : (n : ℕ) (starts : List ℕ) → is_start_list n starts ≡ true → Starts n starts
starts_parts n starts e =
    let s = start_list-parts n starts e in
    let begun = begin starts s.zeroth (omega (arith, s.count)) in
    record { rest = begun.0; first = begun.1; rises = s.rising; long = omega (arith, s.count); small = s.small }
  where
    begin : (ss : List ℕ) → get_or ss 0 0 ≡ 0 → 0 < length ss → (more : List ℕ) × (ss ≡ 0 ∷ more)
    begin [] z h = absurd (omega arith)
    begin (x ∷ xs) z h = (xs, ap (λ n. n ∷ xs) z)

-- start offsets of n rows have n differences
pub length-counts : {n : ℕ} {starts : List ℕ} → Starts n starts → length (differences starts) ≡ n
length-counts s = ap (λ ss. length (differences ss)) s.first ∙ length-differences 0 s.rest ∙ omega (arith, s.long, ap length s.first)

-- behind the values of the first rows stand those of the next
pub sum-counts : {n : ℕ} {starts : List ℕ} (k : ℕ) → k ≤ n → Starts n starts → sum (take k (differences starts)) ≡ get_or starts k 0
sum-counts k h s =
    let rises : is_rising (0 ∷ s.rest) ≡ true = ap is_rising (sym s.first) ∙ s.rises in
    let sums = sum-differences 0 s.rest k (never_falls (0 ∷ s.rest) rises) (omega (arith, s.long, ap length s.first)) in
    ap (λ ss. sum (take k (differences ss))) s.first ∙ omega (arith, sums) ∙ ap (λ ss. get_or ss k 0) (sym s.first)

-- start offsets are, from 0 on, the starts of rows with their differences as counts
pub starts_after-counts : {n : ℕ} {starts : List ℕ} → Starts n starts → starts_after 0 (differences starts) ≡ starts
starts_after-counts s =
    let rises : is_rising (0 ∷ s.rest) ≡ true = ap is_rising (sym s.first) ∙ s.rises in
    ap (λ ss. starts_after 0 (differences ss)) s.first ∙ starts_after-differences 0 s.rest rises ∙ sym s.first
