-- Values on a line: they rise with the moved halves of products, which are residues.
use Rattle.std.proofs.Common.{◌≡◌, ◌⊎◌, ℕ, zero, suc, ◌+◌, ◌-◌, ◌*◌, ◌/◌, ◌%◌, ◌^◌, ◌<◌, ◌≤◌, inl, inr, List, [], ◌∷◌, ◌++◌, length, map, take, set, refl, sym, ap, ◌∙◌, subst, arith, true, false, append-nil}
use Rattle.std.specs.List.{AllByRecursion, range_with_len}
use Rattle.std.specs.Int.{is_in_range}
use Rattle.col_values.proofs.HitLemmas.{rows_none}
use Rattle.col_codecs.specs.BoundedItems.{ids_by}
use Rattle.col_codecs.proofs.BoundedItemLemmas.{filter_all}
use Rattle.std.specs.Prelude.{nat_le}
use Rattle.std.proofs.lemmas.List.FromFn.{length-map-range_with_len, map-range_with_len_more}
use Rattle.std.proofs.lemmas.List.{take_more_set}
use Rattle.std.proofs.lemmas.Bool.Decides.{nat_tests}
use Rattle.std.proofs.lemmas.Bool.{cases_lt, lt-ltb, le-ltb}
use Rattle.col_model.specs.Line.{line, signed_32}
use Rattle.col_model.specs.Stats.{least_of, greatest_of}
use Rattle.col_model.proofs.StatsLaws.{least_of-all, fold-max, fold-max-one}
use Rattle.col_model.proofs.CollectLaws.{fold-min-one}
use Rattle.col_codecs.specs.declared.block_bounds.Bounds.{Bounds}
use Rattle.col_codecs.specs.declared.line.Line.{Line}
use Rattle.col_codecs.specs.BlockBounds.{AreBounds}
use Rattle.col_codecs.specs.OnLine.{on_line, values_on, shift_of, lifted}
use Rattle.col_codecs.specs.Residues.{residue, IsLeast, IsGreatest}
use Rattle.col_codecs.proofs.ResidueLemmas.{alike}

-- ---- values of a function at positions that follow one another

-- what holds of each of them
pub all-range : (P : ℕ → Type 0) (f : ℕ → ℕ) (a n : ℕ) → ((i : ℕ) → i < n → P (f (a + i))) → AllByRecursion P (map f (range_with_len a n))
all-range P f a zero h = tt
all-range P f a (suc n) h = (
  (let e : a + 0 ≡ a = omega arith in subst (λ k. P (f k)) e (h 0 (omega arith))),
  all-range P f (a + 1) n (λ i l. let e : a + (i + 1) ≡ a + 1 + i = omega arith in subst (λ k. P (f k)) e (h (i + 1) (omega arith))),
)

-- one of them, where it holds of each
pub one-range : (P : ℕ → Type 0) (f : ℕ → ℕ) (a n : ℕ) → AllByRecursion P (map f (range_with_len a n)) → (i : ℕ) → i < n → P (f (a + i))
one-range P f a zero all i h = absurd (omega arith)
one-range P f a (suc n) all zero h = let e : a ≡ a + 0 = omega arith in subst (λ k. P (f k)) e all.0
one-range P f a (suc n) all (suc i) h =
    let e : a + 1 + i ≡ a + suc i = omega arith in
    subst (λ k. P (f k)) e (one-range P f (a + 1) n all.1 i (omega arith))

-- one value more
pub range-pushed : (f : ℕ → ℕ) (a n : ℕ) → map f (range_with_len a n) ++ f (a + n) ∷ [] ≡ map f (range_with_len a (n + 1))
range-pushed f a n = sym (map-range_with_len_more f a n (a + n) refl)

-- one value more is written
pub read-more : (f : ℕ → ℕ) (out : List ℕ) (start at x : ℕ) → at < length out → x ≡ f (start + at)
    → take at out ≡ map f (range_with_len start at) → take (at + 1) (set out at x) ≡ map f (range_with_len start (at + 1))
read-more f out start at x within value so_far =
    take_more_set out at x within
    ∙ ap (λ r. r ++ x ∷ []) so_far
    ∙ ap (λ y. map f (range_with_len start at) ++ y ∷ []) value
    ∙ range-pushed f start at

-- the least and the greatest of them
pub least-range : (f : ℕ → ℕ) (a n v : ℕ) → IsLeast (λ i. f (a + i)) n v → v ≡ least_of (map f (range_with_len a n))
least-range f a zero v least = absurd (omega (arith, least.within))
least-range f a (suc n) v least =
    let all = all-range (λ y. v ≤ y) f a (suc n) least.below in
    let xs = map f (range_with_len a (suc n)) in
    let low : v ≤ least_of xs = fold-min-one (λ y. v ≤ y) (f a) (map f (range_with_len (a + 1) n)) all.0 all.1 in
    let high = one-range (λ y. least_of xs ≤ y) f a (suc n) (least_of-all xs) least.place least.within in
    omega (arith, low, high, least.there)

pub greatest-range : (f : ℕ → ℕ) (a n v : ℕ) → IsGreatest (λ i. f (a + i)) n v → v ≡ greatest_of (map f (range_with_len a n))
greatest-range f a n v top =
    let all = all-range (λ y. y ≤ v) f a n top.above in
    let high : greatest_of (map f (range_with_len a n)) ≤ v = fold-max-one (λ y. y ≤ v) 0 (map f (range_with_len a n)) (omega arith) all in
    let xs = map f (range_with_len a n) in
    let low = one-range (λ y. y ≤ greatest_of xs) f a n (fold-max 0 xs).1 top.place top.within in
    omega (arith, low, high, top.there)

-- ---- halves of products

-- what the upper half of a product adds
pub signed-parts : (r : ℕ) → ((r < 2 ^ 31) × (signed_32 r ≡ r)) ⊎ ((2 ^ 31 ≤ r) × (signed_32 r ≡ r + (2 ^ 64 - 2 ^ 32)))
signed-parts r = elim (cases_lt r (2 ^ 31)) [
  | inl h ↦ inl (h, rw (lt-ltb r (2 ^ 31) h) refl)
  | inr h ↦ inr (h, rw (le-ltb r (2 ^ 31) h) refl)
]

-- how far halves are moved
pub shift-parts : (c : ℕ) → c < 2 ^ 64
    → ((2 ^ 31 ≤ c) × (c ≤ 2 ^ 64 - 2 ^ 31) × (shift_of c ≡ 2 ^ 31))
    ⊎ (((c < 2 ^ 31) × (shift_of c ≡ c)) ⊎ ((2 ^ 64 - 2 ^ 31 < c) × (shift_of c ≡ c - (2 ^ 64 - 2 ^ 32))))
shift-parts c h = elim (cases_lt c (2 ^ 31)) [
  | inl low ↦ inr (inl (
    low,
    (let e : c % 2 ^ 32 ≡ c = omega arith in
        let f : nat_le (2 ^ 31) c ≡ false = grind (arith, nat_tests) in rw f e),
  ))
  | inr some ↦ elim (cases_lt (2 ^ 64 - 2 ^ 31) c) [
    | inl high ↦ inr (inr (
      high,
      (let e : c % 2 ^ 32 ≡ c - (2 ^ 64 - 2 ^ 32) = omega arith in
          let f : nat_le c (2 ^ 64 - 2 ^ 31) ≡ false = grind (arith, nat_tests) in
          let g : nat_le (2 ^ 31) c ≡ true = grind (arith, nat_tests) in rw (g, f) e),
    ))
    | inr mid ↦ inl (
      some,
      mid,
      (let f : nat_le c (2 ^ 64 - 2 ^ 31) ≡ true = grind (arith, nat_tests) in
          let g : nat_le (2 ^ 31) c ≡ true = grind (arith, nat_tests) in rw (g, f) refl),
    )
  ]
]

-- what a value adds to a half once it has passed 2^64
abbrev pub jump : ℕ
jump = 2 ^ 64 - 2 ^ 32

-- values are moved halves, raised by a level, and from one half on by the jump too
pub record IsLift (c : ℕ) : Type 0 where
  pub level : ℕ
  pub turn : ℕ
  pub low : (k : ℕ) → k < turn → k < 2 ^ 32 → lifted c k ≡ k + level
  pub high : (k : ℕ) → turn ≤ k → k < 2 ^ 32 → lifted c k ≡ k + level + jump

-- the value at a half, by what the half adds
lifted-to : (c d k v : ℕ) → shift_of c ≡ d → ((k + 2 ^ 32 - d) % 2 ^ 32 < 2 ^ 31 → (c + (k + 2 ^ 32 - d) % 2 ^ 32) % 2 ^ 64 ≡ v)
    → (2 ^ 31 ≤ (k + 2 ^ 32 - d) % 2 ^ 32 → (c + ((k + 2 ^ 32 - d) % 2 ^ 32 + (2 ^ 64 - 2 ^ 32))) % 2 ^ 64 ≡ v) → lifted c k ≡ v
unfolding lifted
lifted-to c d k v e above below =
    ap (λ s. (c + signed_32 ((k + 2 ^ 32 - s) % 2 ^ 32)) % 2 ^ 64) e
    ∙ elim (signed-parts ((k + 2 ^ 32 - d) % 2 ^ 32)) [
      | inl p ↦ ap (λ s. (c + s) % 2 ^ 64) p.1 ∙ above p.0
      | inr p ↦ ap (λ s. (c + s) % 2 ^ 64) p.1 ∙ below p.0
    ]

-- the level and the turn of each intercept
pub lift-of : (c : ℕ) → c < 2 ^ 64 → IsLift c
lift-of c fits = elim (shift-parts c fits) [
  | inl p ↦ record {
    level = c - 2 ^ 31;
    turn = 2 ^ 32;
    low = λ k h s. (let f = p.0 in let g = p.1 in lifted-to c (2 ^ 31) k (k + (c - 2 ^ 31)) p.2 (λ r. omega arith) (λ r. omega arith));
    high = λ k h s. absurd (omega arith);
  }
  | inr q ↦ elim q [
    | inl p ↦ record {
      level = 0;
      turn = c + 2 ^ 31;
      low = λ k h s. (let f = p.0 in lifted-to c c k (k + 0) p.1 (λ r. omega arith) (λ r. omega arith));
      high = λ k h s. (let f = p.0 in lifted-to c c k (k + 0 + jump) p.1 (λ r. omega arith) (λ r. omega arith));
    }
    | inr p ↦ record {
      level = 0;
      turn = c + 2 ^ 31 - 2 ^ 64;
      low = λ k h s. (let f = p.0 in lifted-to c (c - (2 ^ 64 - 2 ^ 32)) k (k + 0) p.1 (λ r. omega arith) (λ r. omega arith));
      high = λ k h s. (let f = p.0 in lifted-to c (c - (2 ^ 64 - 2 ^ 32)) k (k + 0 + jump) p.1 (λ r. omega arith) (λ r. omega arith));
    }
  ]
]

-- values rise with the moved halves
pub lifted-rises : (c j k : ℕ) → c < 2 ^ 64 → j ≤ k → k < 2 ^ 32 → lifted c j ≤ lifted c k
lifted-rises c j k fits h s =
    let l = lift-of c fits in
    elim (cases_lt j l.turn) [
      | inl below ↦ elim (cases_lt k l.turn) [
        | inl b ↦ omega (arith, l.low j below (omega arith), l.low k b s)
        | inr b ↦ omega (arith, l.low j below (omega arith), l.high k b s)
      ]
      | inr above ↦ omega (arith, l.high j above (omega arith), l.high k (omega arith) s)
    ]

-- ---- the value at a position

-- where nothing turns, the moved half of a product is that of the line's value
pub on_line-lifted : (l : Line) (start i moved : ℕ) → moved ≡ (l.slope * start % 2 ^ 64 + shift_of l.intercept * 2 ^ 32) % 2 ^ 64
    → shift_of l.intercept < 2 ^ 32
    → on_line l (start + i) ≡ lifted l.intercept (residue (2 ^ 64) l.slope moved i / 2 ^ 32)
unfolding line lifted
on_line-lifted l start i moved m small =
    let d = shift_of l.intercept in
    let t = (start + i) * l.slope in
    let p = residue (2 ^ 64) l.slope moved i in
    let same : p ≡ (t + d * 2 ^ 32) % 2 ^ 64 =
    alike (2 ^ 64) ((l.slope * start % 2 ^ 64 + d * 2 ^ 32) / 2 ^ 64 + l.slope * start / 2 ^ 64) 0 (l.slope * i + moved) (t + d * 2 ^ 32)
    (omega (arith, m)) in
    ap (λ h. (l.intercept + signed_32 h) % 2 ^ 64) (half t d p small same)
  where
    half : (t d p : ℕ) → d < 2 ^ 32 → p ≡ (t + d * 2 ^ 32) % 2 ^ 64 → t % 2 ^ 64 / 2 ^ 32 ≡ (p / 2 ^ 32 + 2 ^ 32 - d) % 2 ^ 32
    half t d p small e = omega arith

-- the shift has 32 bits
pub shift-small : (c : ℕ) → c < 2 ^ 64 → shift_of c < 2 ^ 32
shift-small c h = elim (shift-parts c h) [
  | inl p ↦ omega (arith, p.2)
  | inr q ↦ elim q [ inl p ↦ omega (arith, p.0, p.1) | inr p ↦ omega (arith, p.0, p.1) ]
]

-- a moved half is the half of a product, and so is the value
pub steep-lifted : (c k r : ℕ) → r ≡ (k + 2 ^ 32 - shift_of c) % 2 ^ 32 → line (2 ^ 32) c r ≡ lifted c k
unfolding line lifted
steep-lifted c k r e =
    let h : r * 2 ^ 32 % 2 ^ 64 / 2 ^ 32 ≡ r = omega arith in
    ap (λ s. (c + signed_32 s) % 2 ^ 64) (h ∙ e)

-- ---- bounds

-- residues of falling numbers mirror those of rising ones
mirrored : (s down b i : ℕ) → s < 2 ^ 64 → b < 2 ^ 64 → down ≡ (2 ^ 64 - s) % 2 ^ 64
    → residue (2 ^ 64) s b i + residue (2 ^ 64) down (2 ^ 64 - 1 - b) i ≡ 2 ^ 64 - 1
mirrored s down b i fits small d =
    elim (cases_lt 0 s) [
      | inl some ↦ (let both : (s + down) * i ≡ 2 ^ 64 * i = let e : s + down ≡ 2 ^ 64 = omega arith in ap (λ k. k * i) e in
          summed (s * i) (down * i) i b small (omega (arith, both)))
      | inr none ↦ (let both : (s + down) * i ≡ 0 * i = let e : s + down ≡ 0 = omega arith in ap (λ k. k * i) e in
          summed (s * i) (down * i) 0 b small (omega (arith, both)))
    ]
  where
    summed : (x y i b : ℕ) → b < 2 ^ 64 → x + y ≡ 2 ^ 64 * i → (x + b) % 2 ^ 64 + (y + (2 ^ 64 - 1 - b)) % 2 ^ 64 ≡ 2 ^ 64 - 1
    summed x y i b small e = omega arith

-- the bounds of the values, by the least residues of rising and of falling numbers
pub bounds-by : (l : Line) (start n moved down low high least greatest : ℕ) → 0 < n → l.slope < 2 ^ 64 → l.intercept < 2 ^ 64
    → moved ≡ (l.slope * start % 2 ^ 64 + shift_of l.intercept * 2 ^ 32) % 2 ^ 64
    → down ≡ (2 ^ 64 - l.slope) % 2 ^ 64
    → IsLeast (residue (2 ^ 64) l.slope moved) n low → IsLeast (residue (2 ^ 64) down (2 ^ 64 - 1 - moved)) n high
    → least ≡ lifted l.intercept (low / 2 ^ 32) → greatest ≡ lifted l.intercept ((2 ^ 64 - 1 - high) / 2 ^ 32)
    → let b : Bounds = record { least = least; greatest = greatest } in AreBounds b (values_on l start n)
bounds-by l start n moved down low high least greatest some sf cf m d lows highs le ge =
    let c = l.intercept in
    let p = residue (2 ^ 64) l.slope moved in
    let at : (i : ℕ) → on_line l (start + i) ≡ lifted c (p i / 2 ^ 32) = λ i. on_line-lifted l start i moved m (shift-small c cf) in
    let fits : (i : ℕ) → p i < 2 ^ 64 = λ i. omega arith in
    let top : (i : ℕ) → p i + residue (2 ^ 64) down (2 ^ 64 - 1 - moved) i ≡ 2 ^ 64 - 1 =
    λ i. mirrored l.slope down moved i sf (omega arith) d in
    record {
      some = omega (arith, length-map-range_with_len (on_line l) start n);
      least = least-range (on_line l) start n least (record {
        place = lows.place;
        within = lows.within;
        there = at lows.place ∙ ap (λ y. lifted c (y / 2 ^ 32)) lows.there ∙ sym le;
        below = λ i h. (let rise = lifted-rises c (low / 2 ^ 32) (p i / 2 ^ 32) cf (omega (arith, lows.below i h))
            (omega (arith, fits i)) in
            omega (arith, rise, at i, le));
      });
      greatest = greatest-range (on_line l) start n greatest (record {
        place = highs.place;
        within = highs.within;
        there = at highs.place
            ∙ ap (λ y. lifted c (y / 2 ^ 32)) (let e : p highs.place ≡ 2 ^ 64 - 1 - high = omega (arith, top highs.place, highs.there) in
            e) ∙ sym ge;
        above = λ i h. (let rise = lifted-rises c (p i / 2 ^ 32) ((2 ^ 64 - 1 - high) / 2 ^ 32) cf
            (omega (arith, highs.below i h, top i)) (omega arith) in omega (arith, rise, at i, ge));
      });
    }

-- ---- lookups

-- each value lies within the bounds
pub within-bounds : (l : Line) (b : Bounds) (a n k : ℕ) → AreBounds b (values_on l a n) → a ≤ k → k < a + n
    → (b.least ≤ on_line l k) × (on_line l k ≤ b.greatest)
within-bounds l b a n k are above below =
    let xs = values_on l a n in
    let place : a + (k - a) ≡ k = omega arith in
    let low = one-range (λ y. least_of xs ≤ y) (on_line l) a n (least_of-all xs) (k - a) (omega arith) in
    let high = one-range (λ y. y ≤ greatest_of xs) (on_line l) a n (fold-max 0 xs).1 (k - a) (omega arith) in
    let same : on_line l (a + (k - a)) ≡ on_line l k = ap (on_line l) place in
    (omega (arith, low, same, are.least), omega (arith, high, same, are.greatest))

-- where the bounds lie outside the range, no id has a value there
pub line-outside : (l : Line) (b : Bounds) (low high a n : ℕ) (old : List ℕ) → AreBounds b (values_on l a n)
    → (b.greatest < low) ⊎ (high < b.least) → old ≡ old ++ ids_by (on_line l) low high a n
unfolding ids_by
line-outside l b low high a n old are apart =
    sym (append-nil old)
    ∙ ap (λ r. old ++ r) (sym (rows_none (λ id. is_in_range low high (on_line l id)) a n
    (λ k above below. let w = within-bounds l b a n k are above below in
    let p = w.0 in let q = w.1 in elim apart [ inl h ↦ grind (arith, nat_tests) | inr h ↦ grind (arith, nat_tests) ])))

-- where they lie inside, each id has
pub line-inside : (l : Line) (b : Bounds) (low high a n : ℕ) (old : List ℕ) → AreBounds b (values_on l a n)
    → low ≤ b.least → b.greatest ≤ high → old ++ range_with_len a n ≡ old ++ ids_by (on_line l) low high a n
unfolding ids_by
line-inside l b low high a n old are from to =
    ap (λ r. old ++ r) (sym (filter_all (λ id. is_in_range low high (on_line l id)) a n
    (λ k above below. let w = within-bounds l b a n k are above below in
    let p = w.0 in let q = w.1 in grind (arith, nat_tests))))
