-- Statistics of values on a line.
use Rattle.std.proofs.Common.{◌≡◌, ◌⊎◌, ℕ, ◌+◌, ◌-◌, ◌*◌, ◌/◌, ◌%◌, ◌^◌, ◌<◌, ◌≤◌, inl, inr, List, [], ◌∷◌, ◌++◌, length, map, max, refl, sym, ap, ◌∙◌, subst, arith, length-append}
use Rattle.std.specs.List.{AllByRecursion, range_with_len}
use Rattle.std.specs.Int.{◌∣◌}
use Rattle.std.proofs.Math.Nat.{div-add-mod, mul-le-mul_left, dvd-mul_right, mod-one}
use Rattle.std.proofs.lemmas.Nat.Gcd.{mod-eq-zero_of_dvd}
use Rattle.std.proofs.lemmas.Bool.{cases_lt}
use Rattle.col_model.specs.Stats.{least_of, greatest_of, stats_of}
use Rattle.col_bits.specs.Packed.{item}
use Rattle.col_model.specs.Line.{line}
use Rattle.col_model.specs.Items.{linear_item, linear_items}
use Rattle.col_codecs.specs.Line.{with_width}
use Rattle.col_model.specs.Laws.{DividesDifferences}
use Rattle.col_model.proofs.DivisorLaws.{divisor-is-greatest}
use Rattle.col_model.proofs.StatsLaws.{all_by, all_both, fold-max-one}
use Rattle.col_model.proofs.CollectLaws.{fold-min-one}
use Rattle.col_codecs.specs.declared.block_bounds.Bounds.{Bounds}
use Rattle.col_codecs.specs.declared.line.Line.{Line}
use Rattle.col_codecs.specs.BlockBounds.{AreBounds}
use Rattle.col_codecs.specs.ColumnStats.{Collected, collected_of}
use Rattle.col_codecs.specs.OnLine.{on_line, values_on, shift_of, lifted}
use Rattle.col_codecs.proofs.ResidueLemmas.{alike}
use Rattle.col_codecs.proofs.StatsLemmas.{collected-count}
use Rattle.col_codecs.proofs.OnLineLemmas.{jump, lift-of, on_line-lifted, shift-small, all-range, one-range}

-- ---- what a divisor leaves

-- what a divisor leaves of each number is one number
abbrev pub Leaves : ℕ → ℕ → List ℕ → Type 0
Leaves d r xs = AllByRecursion (λ x. x % d ≡ r) xs

-- a divisor of both differences of two numbers leaves the same of them
same-left : (d x y : ℕ) → d ∣ x - y → d ∣ y - x → x % d ≡ y % d
same-left d x y p q =
    let up : d * ((x - y) / d) + (x - y) % d ≡ x - y = div-add-mod (x - y) d in
    let down : d * ((y - x) / d) + (y - x) % d ≡ y - x = div-add-mod (y - x) d in
    alike d ((y - x) / d) ((x - y) / d) x y (omega (arith, up, down, mod-eq-zero_of_dvd d p, mod-eq-zero_of_dvd d q))

-- what leaves the same of two numbers divides their difference
divides-left : (d r x y : ℕ) → x % d ≡ r → y % d ≡ r → d ∣ x - y
divides-left d r x y p q =
    let a : d * (x / d) + x % d ≡ x = div-add-mod x d in
    let b : d * (y / d) + y % d ≡ y = div-add-mod y d in
    elim (cases_lt (x / d) (y / d)) [
      | inl less ↦ (let rise : d * (x / d) ≤ d * (y / d) = mul-le-mul_left d (omega arith) in
          let none : d * 0 ≡ x - y = omega (arith, a, b, p, q, rise) in subst (λ k. d ∣ k) none (dvd-mul_right d 0))
      | inr more ↦ (let e : x / d - y / d + y / d ≡ x / d = omega arith in
          let whole : d * (x / d - y / d + y / d) ≡ d * (x / d) = ap (λ k. d * k) e in
          let part : d * (x / d - y / d) ≡ x - y = omega (arith, a, b, p, q, whole) in
          subst (λ k. d ∣ k) part (dvd-mul_right d (x / d - y / d)))
    ]

-- what divides all differences leaves the same of each number
pub left-by : (d y : ℕ) (ys : List ℕ) → DividesDifferences d (y ∷ ys) → Leaves d (y % d) (y ∷ ys)
left-by d y ys all =
    all_by (λ x p. same-left d x y p.0 p.1) (y ∷ ys)
    (all_both (λ x. d ∣ x - y) (λ x. d ∣ y - x) (y ∷ ys) (all_by (λ x row. row.0) (y ∷ ys) all) all.0)

-- what leaves the same of each number divides all differences
pub divides-by : (d r : ℕ) (xs : List ℕ) → Leaves d r xs → DividesDifferences d xs
divides-by d r xs all = all_by (λ x p. all_by (λ y q. divides-left d r x y p q) xs all) xs all

-- ---- the divisor

-- the divisor of a list is one that leaves the same of each number, where none that does is greater
pub divisor-by : (xs : List ℕ) (g r : ℕ) → 0 < length xs → least_of xs < greatest_of xs → Leaves g r xs
    → ((d s : ℕ) → 0 < d → Leaves d s xs → d ≤ g) → g ≡ (stats_of xs).divisor
divisor-by [] g r some apart left top = absurd (omega arith)
divisor-by (y ∷ ys) g r some apart left top =
    let xs = y ∷ ys in
    let d = (stats_of xs).divisor in
    let at_most : g ≤ d = divisor-is-greatest.greatest xs g apart (divides-by g r xs left) in
    elim (cases_lt 0 d) [
      | inl positive ↦ (let at_least : d ≤ g = top d (y % d) positive (left-by d y ys (divisor-is-greatest.divides xs)) in omega arith)
      | inr none ↦ (let e : g ≡ d = omega arith in e)
    ]

-- ---- samples

all-joined : (P : ℕ → Type 0) (xs : List ℕ) (y : ℕ) → AllByRecursion P xs → P y → AllByRecursion P (xs ++ y ∷ [])
all-joined P [] y all p = (p, tt)
all-joined P (x ∷ xs) y all p = (all.0, all-joined P xs y all.1 p)

-- what holds of each number holds of the least and of the greatest
bounds-one : (P : ℕ → Type 0) (xs : List ℕ) → 0 < length xs → AllByRecursion P xs → P (least_of xs) × P (greatest_of xs)
bounds-one P [] some all = absurd (omega arith)
bounds-one P (x ∷ xs) some all =
    let e : x ≡ max 0 x = omega arith in
    (fold-min-one P x xs all.0 all.1, fold-max-one P (max 0 x) xs (subst P e all.0) all.1)

-- the first m values, the bounds, and two values more
abbrev pub sample : Line → ℕ → Bounds → ℕ → ℕ → List ℕ
sample l m b i j = (((values_on l 0 m ++ b.least ∷ []) ++ b.greatest ∷ []) ++ on_line l i ∷ []) ++ on_line l j ∷ []

-- what was collected counts one number more
pub count-more : (s : Collected) (xs : List ℕ) (x n : ℕ) → length xs ≤ n → s ≡ collected_of (xs ++ x ∷ [])
    → (s.count ≤ n + 1) × (length (xs ++ x ∷ []) ≤ n + 1)
count-more s xs x n h e =
    let long = length-append xs (x ∷ []) in (omega (arith, collected-count s (xs ++ x ∷ []) e, long, h), omega (arith, long, h))

-- no divisor that leaves the same of all values is greater than a sample's
pub sample-top : (l : Line) (n m i j d r g : ℕ) (b : Bounds) → m ≤ n → i < n → j < n → AreBounds b (values_on l 0 n)
    → 0 < d → Leaves d r (values_on l 0 n) → (low high : ℕ) → low < high
    → (list : List ℕ) → list ≡ sample l m b i j → low ≡ least_of list → high ≡ greatest_of list
    → g ≡ (stats_of list).divisor → d ≤ g
sample-top l n m i j d r g b h p q are positive left low high apart list is lowest highest e =
    let P : ℕ → Type 0 = λ y. y % d ≡ r in
    let value : (k : ℕ) → k < n → P (on_line l k) = λ k w.
    let z : 0 + k ≡ k = omega arith in subst (λ x. P (on_line l x)) z (one-range P (on_line l) 0 n left k w) in
    let ends = bounds-one P (values_on l 0 n) are.some left in
    let front : Leaves d r (values_on l 0 m) = all-range P (on_line l) 0 m (λ k w. value (0 + k) (omega arith)) in
    let all =
    all-joined P _ (on_line l j) (all-joined P _ (on_line l i) (all-joined P _ b.greatest
    (all-joined P _ b.least front (subst P (sym are.least) ends.0)) (subst P (sym are.greatest) ends.1)) (value i p)) (value j q) in
    let every : Leaves d r list = subst (Leaves d r) (sym is) all in
    let spread : least_of list < greatest_of list = subst (λ k. k < greatest_of list) lowest (subst (λ k. low < k) highest apart) in
    subst (λ k. d ≤ k) (sym e) (divisor-is-greatest.greatest list d spread (divides-by d r list every))

-- statistics part by part
pub stats-by : (xs : List ℕ) (low high d n : ℕ) → low ≡ least_of xs → high ≡ greatest_of xs → d ≡ (stats_of xs).divisor
    → n ≡ length xs → record { least = low; greatest = high; divisor = d; count = n } ≡ stats_of xs
unfolding stats_of
stats-by xs low high d n p q r s = λ i. record { least = p i; greatest = q i; divisor = r i; count = s i }

-- ---- equal steps

-- a number from one to another
abbrev pub Within : ℕ → ℕ → ℕ → Type 0
Within least greatest v = (least ≤ v) × (v ≤ greatest)

-- what divides a rise and a fall leaves the same of a value and one that lies so far from it, where
-- both have passed 2^64 or neither, or it divides what is added there
left-jumped : (g a b d rise fall v u level i j : ℕ) → g * a ≡ rise → g * b ≡ fall → rise < 2 ^ 32 → fall < 2 ^ 32 → i ≤ 1 → j ≤ 1
    → v + fall ≡ d + rise + level + jump * i → u ≡ d + level + jump * j → (least greatest : ℕ) → Within least greatest v
    → Within least greatest u → (greatest < least + 2 ^ 32) ⊎ (jump % g ≡ 0) → v % g ≡ u % g
left-jumped g a b d rise fall v u level i j p q r f ti tj x y least greatest wv wu (inl near) =
    let same : i ≡ j = omega (arith, wv.0, wv.1, wu.0, wu.1) in
    alike g b a v u (omega (arith, same))
left-jumped g a b d rise fall v u level i j p q r f ti tj x y least greatest wv wu (inr whole) =
    let w = jump / g in
    let is : g * w ≡ jump = omega (arith, div-add-mod jump g, whole) in
    alike g (b + w * j) (a + w * i) v u (omega (arith, ap (λ k. k * j) is, ap (λ k. k * i) is))

module _ (l : Line) (n : ℕ) (sf : l.slope < 2 ^ 64) (cf : l.intercept < 2 ^ 64) (flat : l.slope % 2 ^ 32 * (n - 1) < 2 ^ 32) where
  -- how high the values lie above moved halves
  abbrev level : ℕ
  level = (lift-of l.intercept cf).level

  -- where the lower halves of the slope make no step, each moved half lies a step behind that before it
  at-step : (x : ℕ) → x < n → on_line l x ≡ lifted l.intercept ((shift_of l.intercept + l.slope / 2 ^ 32 * x) % 2 ^ 32)
  at-step x h =
      let s = l.slope in
      let d = shift_of l.intercept in
      let small = shift-small l.intercept cf in
      let moved = (s * 0 % 2 ^ 64 + d * 2 ^ 32) % 2 ^ 64 in
      let same : moved ≡ d * 2 ^ 32 = omega (arith, small) in
      let parts : (2 ^ 32 * (s / 2 ^ 32) + s % 2 ^ 32) * x ≡ s * x = ap (λ k. k * x) (div-add-mod s (2 ^ 32)) in
      let less : s % 2 ^ 32 * x ≤ s % 2 ^ 32 * (n - 1) = mul-le-mul_left (s % 2 ^ 32) (omega arith) in
      let place : 0 + x ≡ x = omega arith in
      ap (on_line l) (sym place) ∙ on_line-lifted l 0 x moved refl small
      ∙ ap (lifted l.intercept) (half (s * x) (s / 2 ^ 32 * x) (s % 2 ^ 32 * x) d moved same (omega (arith, parts))
      (omega (arith, less, flat)))
    where
      half : (p q r d moved : ℕ) → moved ≡ d * 2 ^ 32 → p ≡ 2 ^ 32 * q + r → r < 2 ^ 32 → (p + moved) % 2 ^ 64 / 2 ^ 32 ≡ (d + q) % 2 ^ 32
      half p q r d moved m e h = omega arith

  -- the value, by the jump
  at-level : (x k : ℕ) → x < n → k < 2 ^ 32 → k ≡ (shift_of l.intercept + l.slope / 2 ^ 32 * x) % 2 ^ 32
      → (j : ℕ) × (j ≤ 1) × (on_line l x ≡ k + level + jump * j)
  at-level x k h w e =
      let lift = lift-of l.intercept cf in
      let is : on_line l x ≡ lifted l.intercept k = at-step x h ∙ ap (lifted l.intercept) (sym e) in
      elim (cases_lt k lift.turn) [
        | inl below ↦ (0, omega arith, is ∙ lift.low k below w ∙ (let f : k + level ≡ k + level + jump * 0 = omega arith in f))
        | inr above ↦ (1, omega arith, is ∙ lift.high k above w ∙ (let f : k + level + jump ≡ k + level + jump * 1 = omega arith in f))
      ]

  -- what divides the steps and the halves' count leaves the same of all values
  pub left-in-halves : (g x : ℕ) → x < n → 2 ^ 32 % g ≡ 0 → l.slope / 2 ^ 32 % g ≡ 0 → on_line l x % g ≡ on_line l 0 % g
  left-in-halves g x h p q =
      let d = shift_of l.intercept in
      let small = shift-small l.intercept cf in
      let step = l.slope / 2 ^ 32 in
      let k = (d + step * x) % 2 ^ 32 in
      let turns = (d + step * x) / 2 ^ 32 in
      let w = 2 ^ 32 / g in
      let t = step / g in
      let here = at-level x k h (omega arith) refl in
      let none : step * 0 ≡ 0 = omega arith in
      let first = at-level 0 d (omega arith) small (omega (arith, small, none)) in
      let whole : g * w ≡ 2 ^ 32 = omega (arith, div-add-mod (2 ^ 32) g, p) in
      let steps : g * t ≡ step = omega (arith, div-add-mod step g, q) in
      let at : 2 ^ 32 * turns + k ≡ d + step * x = div-add-mod (d + step * x) (2 ^ 32) in
      let many = turns + (2 ^ 32 - 1) * first.0 in
      let more = (2 ^ 32 - 1) * here.0 in
      alike g (w * many) (t * x + w * more) (on_line l x) (on_line l 0)
      (omega (arith, here.2, first.2, at, ap (λ k. k * many) whole, ap (λ k. k * more) whole, ap (λ k. k * x) steps))

  -- the same of values that don't turn, where they don't jump or it divides the jump
  pub left-in-rise : (g x least greatest : ℕ) → x < n → shift_of l.intercept + l.slope / 2 ^ 32 * (n - 1) < 2 ^ 32
      → l.slope / 2 ^ 32 % g ≡ 0 → Within least greatest (on_line l x) → Within least greatest (on_line l 0)
      → (greatest < least + 2 ^ 32) ⊎ (jump % g ≡ 0) → on_line l x % g ≡ on_line l 0 % g
  left-in-rise g x least greatest h straight q a b whole =
      let d = shift_of l.intercept in
      let step = l.slope / 2 ^ 32 in
      let less : step * x ≤ step * (n - 1) = mul-le-mul_left step (omega arith) in
      let none : step * 0 ≡ 0 = omega arith in
      let here = at-level x (d + step * x) h (omega arith) (omega arith) in
      let first = at-level 0 d (omega arith) (omega arith) (omega (arith, none)) in
      let steps : g * (step / g) ≡ step = omega (arith, div-add-mod step g, q) in
      left-jumped g (step / g * x) 0 d (step * x) 0 (on_line l x) (on_line l 0) level here.0 first.0
      (omega (arith, ap (λ k. k * x) steps)) (omega arith) (omega arith) (omega arith) here.1 first.1 (omega (arith, here.2)) first.2
      least greatest a b whole

  -- the same of values that fall
  pub left-in-fall : (g x least greatest : ℕ) → x < n → (2 ^ 32 - l.slope / 2 ^ 32) * (n - 1) ≤ shift_of l.intercept
      → (2 ^ 32 - l.slope / 2 ^ 32) % g ≡ 0 → Within least greatest (on_line l x) → Within least greatest (on_line l 0)
      → (greatest < least + 2 ^ 32) ⊎ (jump % g ≡ 0) → on_line l x % g ≡ on_line l 0 % g
  left-in-fall g x least greatest h straight q a b whole =
      let d = shift_of l.intercept in
      let small = shift-small l.intercept cf in
      let step = l.slope / 2 ^ 32 in
      let down = 2 ^ 32 - step in
      let less : down * x ≤ down * (n - 1) = mul-le-mul_left down (omega arith) in
      let none : step * 0 ≡ 0 = omega arith in
      let both : (down + step) * x ≡ 2 ^ 32 * x = let e : down + step ≡ 2 ^ 32 = omega arith in ap (λ k. k * x) e in
      let here = at-level x (d - down * x) h (omega arith) (fallen d (down * x) (step * x) x small (omega arith) (omega (arith, both))) in
      let first = at-level 0 d (omega arith) small (omega (arith, none, small)) in
      let steps : g * (down / g) ≡ down = omega (arith, div-add-mod down g, q) in
      left-jumped g 0 (down / g * x) d 0 (down * x) (on_line l x) (on_line l 0) level here.0 first.0
      (omega arith) (omega (arith, ap (λ k. k * x) steps)) (omega arith) (omega arith) here.1 first.1 (omega (arith, here.2)) first.2
      least greatest a b whole
    where
      fallen : (d fall rise x : ℕ) → d < 2 ^ 32 → fall ≤ d → fall + rise ≡ 2 ^ 32 * x → d - fall ≡ (d + rise) % 2 ^ 32
      fallen d fall rise x small h e = omega arith

-- ---- lists without offsets

-- an item without an offset is the line's value
pub flat-item : (l : Line) (w : ℕ) (bytes : List ℕ) (i : ℕ) → w ≡ 0 → linear_item (with_width l w) bytes i ≡ on_line l i
unfolding line
flat-item l w bytes i e =
    let rest : item bytes 0 i ≡ 0 = mod-one _ in
    let v = on_line l i in
    ap (λ k. linear_item (with_width l k) bytes i) e
    ∙ ap (λ r. (v + r) % 2 ^ 64) rest
    ∙ (let same : (v + 0) % 2 ^ 64 ≡ v = omega arith in same)

-- all items without offsets are the line's values
pub flat-items : (l : Line) (w : ℕ) (bytes : List ℕ) (n : ℕ) → w ≡ 0 → linear_items (with_width l w) bytes n ≡ values_on l 0 n
flat-items l w bytes n e = λ j. map (λ i. flat-item l w bytes i e j) (range_with_len 0 n)
