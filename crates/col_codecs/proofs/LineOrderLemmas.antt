-- Values on a line rise as long as no moved product turns.
use Rattle.std.proofs.Common.{◌≡◌, ℕ, zero, suc, ◌+◌, ◌-◌, ◌*◌, ◌/◌, ◌^◌, ◌<◌, ◌≤◌, inl, inr, Bool, true, false, not, nat_lt, nat_le, map, refl, sym, ap, subst, arith}
use Rattle.std.specs.List.{range_with_len}
use Rattle.std.proofs.Math.Nat.{mod-eq_of_lt, mul-le-mul_left}
use Rattle.std.proofs.lemmas.Bool.{cases_lt, lt-ltb, ltb-true, leb-true, le-leb, lt-leb, and_parts, false_from_ne_true}
use Rattle.col_common.specs.Ascending.{all_adjacent, is_rising, is_never_falling}
use Rattle.col_codecs.specs.declared.line.Line.{Line}
use Rattle.col_codecs.specs.OnLine.{on_line, values_on, shift_of, lifted}
use Rattle.col_codecs.specs.Residues.{residue}
use Rattle.col_codecs.proofs.OnLineLemmas.{lift-of, lifted-rises, on_line-lifted, shift-small}

-- ---- neighbours

-- what holds of each value and the next
all-next : (test : ℕ → ℕ → Bool) (f : ℕ → ℕ) (a n : ℕ) → ((i : ℕ) → i + 1 < n → test (f (a + i)) (f (a + (i + 1))) ≡ true)
    → all_adjacent test (map f (range_with_len a n)) ≡ true
all-next test f a zero h = refl
all-next test f a (suc zero) h = refl
all-next test f a (suc (suc n)) h =
    let here : a + 0 ≡ a = omega arith in
    let first : test (f a) (f (a + 1)) ≡ true = subst (λ k. test (f k) (f (a + 1)) ≡ true) here (h 0 (omega arith)) in
    let later = all-next test f (a + 1) (suc n) (λ i l.
    let e : a + (i + 1) ≡ a + 1 + i = omega arith in
    let g : a + (i + 1 + 1) ≡ a + 1 + (i + 1) = omega arith in
    subst (λ k. test (f (a + 1 + i)) (f k) ≡ true) g (subst (λ k. test (f k) (f (a + (i + 1 + 1))) ≡ true) e (h (i + 1) (omega arith)))) in
    rw first later

-- a value and the next, where it holds of each
one-next : (test : ℕ → ℕ → Bool) (f : ℕ → ℕ) (a n : ℕ) → all_adjacent test (map f (range_with_len a n)) ≡ true
    → (i : ℕ) → i + 1 < n → test (f (a + i)) (f (a + (i + 1))) ≡ true
one-next test f a zero e i h = absurd (omega arith)
one-next test f a (suc zero) e i h = absurd (omega arith)
one-next test f a (suc (suc n)) e zero h =
    let here : a ≡ a + 0 = omega arith in
    subst (λ k. test (f k) (f (a + 1)) ≡ true) here (and_parts _ _ e).0
one-next test f a (suc (suc n)) e (suc i) h =
    let one : a + 1 + i ≡ a + suc i = omega arith in
    let two : a + 1 + (i + 1) ≡ a + (suc i + 1) = omega arith in
    subst (λ k. test (f (a + suc i)) (f k) ≡ true) two (subst (λ k. test (f k) (f (a + 1 + (i + 1))) ≡ true) one
    (one-next test f (a + 1) (suc n) (and_parts _ _ e).1 i (omega arith)))

-- ---- moved halves

-- values rise strictly with the moved halves
lifted-above : (c j k : ℕ) → c < 2 ^ 64 → j < k → k < 2 ^ 32 → lifted c j < lifted c k
lifted-above c j k fits h s =
    let l = lift-of c fits in
    elim (cases_lt j l.turn) [
      | inl below ↦ elim (cases_lt k l.turn) [
        | inl b ↦ omega (arith, l.low j below (omega arith), l.low k b s)
        | inr b ↦ omega (arith, l.low j below (omega arith), l.high k b s)
      ]
      | inr above ↦ omega (arith, l.high j above (omega arith), l.high k (omega arith) s)
    ]

-- how far the first product is moved
abbrev pub moved : Line → ℕ
moved l = shift_of l.intercept * 2 ^ 32

-- the moved half of a product
abbrev half : Line → ℕ → ℕ
half l i = residue (2 ^ 64) l.slope (moved l) i / 2 ^ 32

-- where products first pass 2 ^ 64
record Turn (s m n : ℕ) : Type 0 where
  place : ℕ
  within : place + 1 ≤ n
  before : s * place + m < 2 ^ 64
  behind : 2 ^ 64 ≤ s * (place + 1) + m

-- they pass it somewhere
turn-of : (s m n : ℕ) → m < 2 ^ 64 → 2 ^ 64 ≤ s * n + m → Turn s m n
turn-of s m zero low high = absurd (omega arith)
turn-of s m (suc n) low high = elim (cases_lt (s * n + m) (2 ^ 64)) [
  | inl below ↦ record { place = n; within = omega arith; before = below; behind = omega (arith, high) }
  | inr above ↦ let t = turn-of s m n low above in
      record { place = t.place; within = omega (arith, t.within); before = t.before; behind = t.behind }
]

module _ (l : Line) (steep : l.slope < 2 ^ 64) (fits : l.intercept < 2 ^ 64) where
  -- the value at a position
  value-at : (i : ℕ) → on_line l (0 + i) ≡ lifted l.intercept (half l i)
  value-at i =
      let small = shift-small l.intercept fits in
      on_line-lifted l 0 i (moved l) (omega (arith, small)) small

  -- a moved half has 32 bits
  half-small : (i : ℕ) → half l i < 2 ^ 32
  half-small i = omega arith

  -- the first product
  moved-small : moved l < 2 ^ 64
  moved-small = omega (arith, shift-small l.intercept fits)

  -- where no product turns, a product is its own residue
  unturned : (n i : ℕ) → l.slope * (n - 1) + moved l < 2 ^ 64 → i < n → half l i ≡ (l.slope * i + moved l) / 2 ^ 32
  unturned n i short h =
      let step : l.slope * i ≤ l.slope * (n - 1) = mul-le-mul_left l.slope (omega arith) in
      ap (λ y. y / 2 ^ 32) (mod-eq_of_lt (omega (arith, short, step)))

  -- then values never fall
  pub stays-unturned : (n : ℕ) → l.slope * (n - 1) + moved l < 2 ^ 64 → is_never_falling (values_on l 0 n) ≡ true
  stays-unturned n short = all-next nat_le (on_line l) 0 n (λ i h.
      let here = unturned n i short (omega arith) in
      let next = unturned n (i + 1) short h in
      let up : half l i ≤ half l (i + 1) = omega (arith, here, next) in
      let above = lifted-rises l.intercept (half l i) (half l (i + 1)) fits up (half-small (i + 1)) in
      le-leb _ _ (omega (arith, value-at i, value-at (i + 1), above)))

  -- and rise by whole steps
  pub rises-unturned : (n : ℕ) → 2 ^ 32 ≤ l.slope → l.slope * (n - 1) + moved l < 2 ^ 64 → is_rising (values_on l 0 n) ≡ true
  rises-unturned n whole short = all-next nat_lt (on_line l) 0 n (λ i h.
      let here = unturned n i short (omega arith) in
      let next = unturned n (i + 1) short h in
      let up : half l i < half l (i + 1) = omega (arith, here, next, whole) in
      let above = lifted-above l.intercept (half l i) (half l (i + 1)) fits up (half-small (i + 1)) in
      lt-ltb _ _ (omega (arith, value-at i, value-at (i + 1), above)))

  -- by less than a whole step the second value isn't above the first
  pub rises-flat : (n : ℕ) → 1 < n → l.slope < 2 ^ 32 → is_rising (values_on l 0 n) ≡ false
  rises-flat n some flat = false_from_ne_true _ (λ e.
      let up : on_line l (0 + 0) < on_line l (0 + (0 + 1)) = ltb-true _ _ (one-next nat_lt (on_line l) 0 n e 0 (omega arith)) in
      let small = shift-small l.intercept fits in
      let same : half l 0 ≡ half l (0 + 1) = omega (arith, flat, small) in
      omega (arith, up, value-at 0, value-at (0 + 1), ap (lifted l.intercept) same))

  -- where a product turns, the half doesn't rise
  half-turned : (n : ℕ) (t : Turn l.slope (moved l) n) → half l (t.place + 1) ≤ half l t.place
  half-turned n t = omega (arith, t.before, t.behind, steep)

  -- nor does the value
  pub rises-turned : (n : ℕ) → 0 < n → 2 ^ 64 ≤ l.slope * (n - 1) + moved l → is_rising (values_on l 0 n) ≡ false
  rises-turned n some long = false_from_ne_true _ (λ e.
      let t = turn-of l.slope (moved l) (n - 1) moved-small long in
      let i = t.place in
      let up : on_line l (0 + i) < on_line l (0 + (i + 1)) = ltb-true _ _ (one-next nat_lt (on_line l) 0 n e i (omega (arith, t.within))) in
      let down = lifted-rises l.intercept (half l (i + 1)) (half l i) fits (half-turned (n - 1) t) (half-small i) in
      omega (arith, up, down, value-at i, value-at (i + 1)))

  -- but where steps down are short, the value falls
  pub stays-turned : (n : ℕ) → 0 < n → l.slope ≤ 2 ^ 64 - 2 ^ 32 → 2 ^ 64 ≤ l.slope * (n - 1) + moved l
      → is_never_falling (values_on l 0 n) ≡ false
  stays-turned n some whole long = false_from_ne_true _ (λ e.
      let t = turn-of l.slope (moved l) (n - 1) moved-small long in
      let i = t.place in
      let up : on_line l (0 + i) ≤ on_line l (0 + (i + 1)) = leb-true _ _ (one-next nat_le (on_line l) 0 n e i (omega (arith, t.within))) in
      let lower : half l (i + 1) < half l i = omega (arith, t.before, t.behind, whole) in
      let down = lifted-above l.intercept (half l (i + 1)) (half l i) fits lower (half-small i) in
      omega (arith, up, down, value-at i, value-at (i + 1)))

-- a list of at most one value
pub stays-short : (l : Line) (n : ℕ) → n ≤ 1 → is_never_falling (values_on l 0 n) ≡ true
stays-short l zero h = refl
stays-short l (suc zero) h = refl
stays-short l (suc (suc n)) h = absurd (omega arith)

-- ---- by the test of turns

module _ (slope intercept n : ℕ) (steep : slope < 2 ^ 64) (fits : intercept < 2 ^ 64) (some : 0 < n) where
  -- the line
  abbrev on : Line
  on = record { slope = slope; intercept = intercept }

  -- its last moved product
  abbrev last_product : ℕ
  last_product = slope * (n - 1) + shift_of intercept * 2 ^ 32

  -- values rise by whole steps where nothing turns
  pub rises-whole : 2 ^ 32 ≤ slope → not (nat_le (2 ^ 64) last_product) ≡ is_rising (values_on on 0 n)
  rises-whole whole = elim (cases_lt last_product (2 ^ 64)) [
    | inl short ↦ rw (lt-leb (2 ^ 64) last_product short) (sym (rises-unturned on steep fits n whole short))
    | inr long ↦ rw (le-leb (2 ^ 64) last_product long) (sym (rises-turned on steep fits n some long))
  ]

  -- where nothing turns, values never fall
  pub stays-whole : nat_le (2 ^ 64) last_product ≡ false → true ≡ is_never_falling (values_on on 0 n)
  stays-whole none = elim (cases_lt last_product (2 ^ 64)) [
    | inl short ↦ sym (stays-unturned on steep fits n short)
    | inr long ↦ absurd (let e = le-leb (2 ^ 64) last_product long in grind arith)
  ]

  -- where something turns by a whole step, they fall
  pub falls-whole : nat_le (2 ^ 64) last_product ≡ true → slope ≤ 2 ^ 64 - 2 ^ 32 → false ≡ is_never_falling (values_on on 0 n)
  falls-whole turned whole = elim (cases_lt last_product (2 ^ 64)) [
    | inl short ↦ absurd (let e = lt-leb (2 ^ 64) last_product short in grind arith)
    | inr long ↦ sym (stays-turned on steep fits n some whole long)
  ]
