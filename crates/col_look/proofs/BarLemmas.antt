-- Bars by the counts of places are those of the cells.
use Rattle.std.proofs.Common.{◌≡◌, ℕ, ℤ, zero, suc, pos, ◌+◌, ◌-◌, ◌/◌, ◌+ℤ◌, ◌-ℤ◌, ◌<◌, ◌≤◌, ◌==◌, nat_abs, nat_le, ◌&&◌, cond, List, [], ◌∷◌, map, length, sum, get_or, Some, refl, sym, ◌∙◌, ap, ap₂, arith}
use Rattle.std.specs.Prelude.{int_le}
use Rattle.std.specs.List.{AllByRecursion, count_by, range_with_len}
use Rattle.std.proofs.lemmas.Bool.Decides.{nat_tests}
use Rattle.std.proofs.lemmas.Int.{ints}
use Rattle.std.proofs.lemmas.List.Sums.{sum_by-cons}
use Rattle.std.proofs.lemmas.Nat.{div_below}
use Rattle.col_model.specs.Lookup.{is_between}
use Rattle.col_model.specs.Table.{Cell, number}
use Rattle.col_model.proofs.ListLaws.{sum-cons}
use Rattle.col_look.specs.Bars.{bar_width, bar_start, bar_end, bar_range, bar_ranges, bar_over, bars_between, bar_total}
use Rattle.col_look.specs.BarsAt.{bar_at, bars_from}
use Rattle.col_look.specs.Ends.{least_cell, greatest_cell}
use Rattle.col_look.specs.Places.{place_of}
use Rattle.col_look.specs.declared.bar.Bar.{Bar}
use Rattle.col_look.proofs.PlaceLemmas.{in-range}
use Rattle.col_look.proofs.SumLemmas.{places-sum, sum-told}

-- a number lies as far above a least one as its code above a base, and no farther than a distance
pub record IsAbove (least : ℤ) (base distance : ℕ) (z : ℤ) (code : ℕ) : Type 0 where
  pub from : base ≤ code
  pub within : code - base ≤ distance
  pub stands : z ≡ least +ℤ pos (code - base)

-- numbers above one compare as their distances do
shifted : (a : ℤ) (m n : ℕ) → int_le (a +ℤ pos m) (a +ℤ pos n) ≡ nat_le m n
shifted a m n = grind (arith, ints, nat_tests)

-- the distance of two numbers
apart-by : (a : ℤ) (d : ℕ) → nat_abs ((a +ℤ pos d) -ℤ a) ≡ d
apart-by a d = grind (arith, ints)

-- a number is between the ends of the bar at a place exactly where its place is this one
between-ends : (a z : ℤ) (base d w place code : ℕ) → 0 < w → IsAbove a base d z code
    → is_between (number (a +ℤ pos (bar_start w place))) (number (a +ℤ pos (bar_end d w place))) (number z)
    ≡ (place_of base w code == place)
between-ends a z base d w place code wide above =
    ap (λ y. int_le (a +ℤ pos (bar_start w place)) y && int_le y (a +ℤ pos (bar_end d w place))) above.stands
    ∙ ap₂ (λ s t. s && t) (shifted a (bar_start w place) (code - base)) (shifted a (code - base) (bar_end d w place))
    ∙ in-range d w place (code - base) wide above.within

module _ {T : Type 0} (num : T → ℤ) (code : T → ℕ) (a : ℤ) (base d w : ℕ) (wide : 0 < w) where
  -- the cells between the ends of a bar are those of the values at its place
  pub counted-between : (place : ℕ) (xs : List T) → AllByRecursion (λ x. IsAbove a base d (num x) (code x)) xs
      → (bar_over (map (λ x. number (num x)) xs) (bar_range a d w place)).count
      ≡ count_by (λ x. place_of base w (code x) == place) xs
  counted-between place [] all = refl
  counted-between place (x ∷ xs) all =
      let range = bar_range a d w place in
      sum_by-cons (λ (c : Cell). cond (is_between (number range.0) (number range.1) c) 1 0) (number (num x)) (map (λ x. number (num x)) xs)
      ∙ ap₂ (λ b n. cond b 1 0 + n) (between-ends a (num x) base d w place (code x) wide all.0) (counted-between place xs all.1)
      ∙ sym (sum_by-cons (λ (y : T). cond (place_of base w (code y) == place) 1 0) x xs)

-- bars with the counts over their ranges are those of the ranges
bars-over : (a : ℤ) (d w : ℕ) (cells : List Cell) (at : ℕ) (ns : List ℕ)
    → ((i : ℕ) → i < length ns → get_or ns i 0 ≡ (bar_over cells (bar_range a d w (at + i))).count)
    → bars_from a d w at ns ≡ map (bar_over cells) (map (bar_range a d w) (range_with_len at (length ns)))
bars-over a d w cells at [] told = refl
bars-over a d w cells at (n ∷ ns) told =
    let here : at + 0 ≡ at = omega arith in
    let head : n ≡ (bar_over cells (bar_range a d w at)).count =
    told 0 (omega arith) ∙ ap (λ k. (bar_over cells (bar_range a d w k)).count) here in
    ap₂ (λ m bs. bar_at a d w at m ∷ bs) head
    (bars-over a d w cells (at + 1) ns (λ i l. told (suc i) (omega (arith, l))
    ∙ ap (λ k. (bar_over cells (bar_range a d w k)).count) (further i)))
  where
    further : (i : ℕ) → at + suc i ≡ at + 1 + i
    further i = omega arith

-- the ranges of so many places
abbrev ranges_at : ℤ → ℕ → ℕ → List (ℤ × ℤ)
ranges_at a d w = map (bar_range a d w) (range_with_len 0 (suc (d / w)))

-- the ranges between two numbers, by their distance
ranges-by : (a b : ℤ) (d n : ℕ) → b ≡ a +ℤ pos d → ranges_at a d (bar_width (suc n) d) ≡ bar_ranges a b (suc n)
unfolding bar_ranges
ranges-by a b d n e =
    let far : nat_abs (b -ℤ a) ≡ d = ap (λ z. nat_abs (z -ℤ a)) e ∙ apart-by a d in
    ap (λ k. ranges_at a k (bar_width (suc n) k)) (sym far)

-- bars with the counts of the places of values are those of their cells
pub bars-are : {T : Type 0} (num : T → ℤ) (code : T → ℕ) (a b : ℤ) (base d w count : ℕ) (counts : List ℕ) (xs : List T)
    → least_cell (map (λ x. number (num x)) xs) ≡ Some (number a)
    → greatest_cell (map (λ x. number (num x)) xs) ≡ Some (number b)
    → b ≡ a +ℤ pos d → AllByRecursion (λ x. IsAbove a base d (num x) (code x)) xs → 0 < count → w ≡ bar_width count d
    → length counts ≡ suc (d / w)
    → ((i : ℕ) → i < length counts → get_or counts i 0 ≡ count_by (λ x. place_of base w (code x) == i) xs)
    → bars_from a d w 0 counts ≡ bars_between (least_cell (map (λ x. number (num x)) xs))
    (greatest_cell (map (λ x. number (num x)) xs)) count (map (λ x. number (num x)) xs)
bars-are num code a b base d w zero counts xs least greatest far above some width size told = absurd (omega (arith, some))
bars-are num code a b base d w (suc n) counts xs least greatest far above some width size told =
    let cells = map (λ x. number (num x)) xs in
    let wide : 0 < w = omega (arith, width) in
    bars-over a d w cells 0 counts (λ i l. told i l ∙ sym (counted-between num code a base d w wide i xs above)
    ∙ ap (λ k. (bar_over cells (bar_range a d w k)).count) (from-zero i))
    ∙ ap (λ k. map (bar_over cells) (map (bar_range a d w) (range_with_len 0 k))) size
    ∙ ap (λ v. map (bar_over cells) (ranges_at a d v)) width
    ∙ ap (map (bar_over cells)) (ranges-by a b d n far)
    ∙ sym (ap₂ (λ o p. bars_between o p (suc n) cells) least greatest)
  where
    from-zero : (i : ℕ) → i ≡ 0 + i
    from-zero i = omega arith

-- ---- how many values bars have together

total-from : (a : ℤ) (d w at : ℕ) (ns : List ℕ) → bar_total (bars_from a d w at ns) ≡ sum ns
total-from a d w at [] = refl
total-from a d w at (n ∷ ns) =
    sum_by-cons (λ (b : Bar). b.count) (bar_at a d w at n) (bars_from a d w (at + 1) ns)
    ∙ ap (λ m. n + m) (total-from a d w (at + 1) ns) ∙ sym (sum-cons n ns)

-- bars with the counts of all places have all values
pub bars-total : {T : Type 0} (f : T → ℕ) (a : ℤ) (d w : ℕ) (counts : List ℕ) (xs : List T)
    → AllByRecursion (λ x. f x < length counts) xs
    → ((i : ℕ) → i < length counts → get_or counts i 0 ≡ count_by (λ x. f x == i) xs)
    → bar_total (bars_from a d w 0 counts) ≡ length xs
bars-total f a d w counts xs below told =
    total-from a d w 0 counts
    ∙ sum-told (λ i. count_by (λ x. f x == i) xs) 0 counts (λ i l. told i l ∙ ap (λ k. count_by (λ x. f x == k) xs) (from-zero i))
    ∙ places-sum f xs (length counts) below
  where
    from-zero : (i : ℕ) → i ≡ 0 + i
    from-zero i = omega arith

-- ---- one bar

-- where a bar reaches over the distance, all values stand at its place
pub all-first : {T : Type 0} (num : T → ℤ) (code : T → ℕ) (a : ℤ) (base d : ℕ) (xs : List T)
    → AllByRecursion (λ x. IsAbove a base d (num x) (code x)) xs
    → length xs ≡ count_by (λ x. place_of base (suc d) (code x) == 0) xs
all-first num code a base d [] all = refl
all-first {T = T} num code a base d (x ∷ xs) all =
    let first : place_of base (suc d) (code x) ≡ 0 = near (code x - base) all.0.within in
    let step = sum_by-cons (λ (y : T). cond (place_of base (suc d) (code y) == 0) 1 0) x xs in
    let own : ◌≡◌ {A = ℕ} (cond (place_of base (suc d) (code x) == 0) 1 0) 1 = ap (λ k. cond (k == 0) 1 0) first in
    omega (arith, step, own, all-first num code a base d xs all.1)
  where
    near : (e : ℕ) → e ≤ d → e / suc d ≡ 0
    near e le = omega (arith, div_below e (suc d) 1 (omega arith) (omega (arith, le)))
