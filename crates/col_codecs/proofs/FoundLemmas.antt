-- Lookups on packed steps.
use Rattle.std.proofs.Common.{◌≡◌, ℕ, ◌+◌, ◌-◌, ◌*◌, ◌/◌, ◌<◌, ◌≤◌, ◌&&◌, ◌^◌, true, List, [], ◌∷◌, length, map, filter, min, slice_get, get_or, Some, Result, Ok, Err, refl, sym, ◌∙◌, ap, ap₂, inl, inr, arith}
use Rattle.std.specs.Prelude.{nat_le}
use Rattle.std.specs.Int.{is_in_range, div_ceil}
use Rattle.std.specs.List.{AllByRecursion, range_with_len}
use Rattle.std.proofs.Math.Nat.{le-div_iff_mul-le, mul-le-mul_right}
use Rattle.std.proofs.lemmas.Grind.{div_ceil_times}
use Rattle.std.proofs.lemmas.Bool.{cases_lt}
use Rattle.std.proofs.lemmas.Option.{slice_get-get_or}
use Rattle.std.proofs.lemmas.List.FromFn.{length-map-range_with_len, get_or-map-range_with_len}
use Rattle.std.proofs.lemmas.Bool.Decides.{nat_tests}
use Rattle.col_common.specs.Ascending.{is_rising}
use Rattle.col_common.specs.declared.error.ColumnarError.{ColumnarError}
use Rattle.col_common.specs.Replacing.{Replaces}
use Rattle.col_bits.specs.Packed.{item}
use Rattle.col_model.specs.Stats.{Stats}
use Rattle.col_values.specs.Codes.{number_cmp}
use Rattle.col_values.specs.Values.{passes, is_between, hits, hits_between}
use Rattle.col_values.proofs.HitLemmas.{rows_same, in_between}
use Rattle.col_codecs.specs.Bitpacked.{bitpacked_items, IsReader}
use Rattle.col_codecs.specs.BoundedItems.{ids_by}
use Rattle.col_codecs.proofs.BitpackedLemmas.{length-bitpacked_items, reads-at}

-- ---- ends as steps

both_ways : (a b c d : ℕ) → (a ≤ b → c ≤ d) → (c ≤ d → a ≤ b) → nat_le a b ≡ nat_le c d
both_ways a b c d f g = elim (cases_lt b a) [
  | inl past ↦ elim (cases_lt d c) [ inl beyond ↦ grind (arith, nat_tests) | inr upto ↦ absurd (let h = g upto in omega arith) ]
  | inr within ↦ let h = f within in grind (arith, nat_tests)
]

-- so many divisors reach the lower end exactly where the steps are at least its distance, rounded up
up_to : (a g k : ℕ) → 0 < g → nat_le a (g * k) ≡ nat_le (div_ceil a g) k
up_to a g k some =
    let bounds = div_ceil_times a g some in
    both_ways a (g * k) (div_ceil a g) k
    (λ reached. elim (cases_lt k (div_ceil a g)) [
      | inl less ↦ absurd (let more : k + 1 ≤ div_ceil a g = omega arith in let h : (k + 1) * g ≤ div_ceil a g * g =
          mul-le-mul_right g more in omega (arith, h, bounds, reached))
      | inr enough ↦ enough
    ])
    (λ enough. let h : div_ceil a g * g ≤ k * g = mul-le-mul_right g enough in omega (arith, h, bounds))

-- they stay below the upper end exactly where the steps are at most its distance, rounded down
down_to : (b g k : ℕ) → 0 < g → nat_le (g * k) b ≡ nat_le k (b / g)
down_to b g k some =
    let both = le-div_iff_mul-le {k = g} {x = k} {y = b} some in
    both_ways (g * k) b k (b / g) (λ h. both.1 (omega (arith, h))) (λ h. let m = both.0 h in omega (arith, m))

lower : (least g low k : ℕ) → nat_le low (least + g * k) ≡ nat_le (low - least) (g * k)
lower least g low k = both_ways low (least + g * k) (low - least) (g * k) (λ h. omega (arith, h)) (λ h. omega (arith, h))

upper : (least g high k : ℕ) → least ≤ high → nat_le (least + g * k) high ≡ nat_le (g * k) (high - least)
upper least g high k above = both_ways (least + g * k) high (g * k) (high - least) (λ h. omega (arith, h)) (λ h. omega (arith, h, above))

-- a value is in a range where its step is from the first to the last step in the range
pub steps_within : (least g low high k : ℕ) → 0 < g → least ≤ high
    → is_in_range low high (least + g * k) ≡ is_in_range (div_ceil (low - least) g) ((high - least) / g) k
steps_within least g low high k some above =
    ap₂ (λ s t. s && t) (lower least g low k ∙ up_to (low - least) g k some) (upper least g high k above ∙ down_to (high - least) g k some)

-- ---- rows

-- ids by numbers that are tested as the values are, which are those of the list
pub found_by : (f : ℕ → ℕ) (list : List ℕ) (low high first last from to end : ℕ) → end ≡ min to (length list)
    → ((k : ℕ) → k < length list
    → passes (is_between number_cmp low high) (slice_get list k) ≡ is_in_range first last (f k))
    → ids_by f first last from (end - from) ≡ hits_between number_cmp list low high from to
unfolding ids_by hits
found_by f list low high first last from to end upto tests =
    rows_same _ _ from (end - from) (λ k above below. sym (tests k (omega (arith, upto))))
    ∙ ap (λ n. filter (λ row. passes (is_between number_cmp low high) (slice_get list row)) (range_with_len from n)) (omega (arith, upto))

-- ids by codes are those by the values that the codes stand for
pub found_coded : (f : ℕ → ℕ) (least divisor low high first last a n : ℕ)
    → ((k : ℕ) → is_in_range low high (least + divisor * k) ≡ is_in_range first last k)
    → ids_by f first last a n ≡ ids_by (λ id. least + divisor * f id) low high a n
unfolding ids_by
found_coded f least divisor low high first last a n codes = rows_same _ _ a n (λ k above below. sym (codes (f k)))

-- ids by the values that packed codes stand for are those of the list
pub found_decoded : (s t : Stats) (bytes read list : List ℕ) (w low high from to end : ℕ)
    → bitpacked_items s bytes ≡ list → IsReader s w bytes → t ≡ s → read ≡ bytes → end ≡ min to s.count
    → ids_by (λ id. t.least + t.divisor * item read w id) low high from (end - from) ≡ hits_between number_cmp list low high from to
found_decoded s t bytes read list w low high from to end view reader seen same upto =
    let long : length list ≡ s.count = ap length (sym view) ∙ length-bitpacked_items s bytes in
    ap (λ (u : Stats). ids_by (λ id. u.least + u.divisor * item read w id) low high from (end - from)) seen
    ∙ found_by (λ id. s.least + s.divisor * item read w id) list low high low high from to end (omega (arith, upto, long)) (λ k inside.
    let at = (reads-at s bytes read list w k (item read w k) view reader same refl inside).1 in
    ap (passes (is_between number_cmp low high)) at ∙ in_between low high (s.least + s.divisor * item read w k))

-- those by the values themselves
pub found_values : (f : ℕ → ℕ) (list : List ℕ) (n low high from to end : ℕ) → map f (range_with_len 0 n) ≡ list
    → end ≡ min to n → ids_by f low high from (end - from) ≡ hits_between number_cmp list low high from to
found_values f list n low high from to end view upto =
    let long : length list ≡ n = ap length (sym view) ∙ length-map-range_with_len f 0 n in
    found_by f list low high low high from to end (omega (arith, upto, long)) (λ k inside.
    let at : slice_get list k ≡ Some (f k) = slice_get-get_or list k 0 inside
    ∙ ap (λ xs. Some (get_or xs k 0)) (sym view)
    ∙ ap Some (get_or-map-range_with_len f 0 n k k 0 (omega (arith, long, inside)) (omega arith)) in
    ap (passes (is_between number_cmp low high)) at ∙ in_between low high (f k))

-- a call that replaces by a list that rises leaves one
pub replaces-rise : (r : Result (Unit {0}) ColumnarError) (new expected : List ℕ) → Replaces r new expected
    → is_rising expected ≡ true → is_rising new ≡ true
replaces-rise (Ok done) new expected e rise = ap is_rising e ∙ rise
replaces-rise (Err e) new expected gone rise = ap is_rising gone.1

-- ---- a divisor of 1

-- steps fit 64 bits above the least where they do so times a divisor of 1
pub fit_by_one : (m d : ℕ) (ks : List ℕ) → d ≡ 1 → AllByRecursion (λ k. m + d * k < 2 ^ 64) ks → AllByRecursion (λ k. m + k < 2 ^ 64) ks
fit_by_one m d [] e all = tt
fit_by_one m d (k ∷ ks) e all =
    let same : d * k ≡ 1 * k = ap (λ n. n * k) e in
    (omega (arith, all.0, same), fit_by_one m d ks e all.1)

-- steps above the least are those times a divisor of 1 above it
pub map_by_one : (m d : ℕ) (ks : List ℕ) → d ≡ 1 → map (λ k. m + k) ks ≡ map (λ k. m + d * k) ks
map_by_one m d [] e = refl
map_by_one m d (k ∷ ks) e =
    let same : d * k ≡ 1 * k = ap (λ n. n * k) e in
    let first : m + k ≡ m + d * k = omega (arith, same) in
    λ i. first i ∷ map_by_one m d ks e i

-- ---- a least of 0

-- steps above a least of 0 are the steps themselves
pub map_no_least : (m : ℕ) (ks : List ℕ) → m ≡ 0 → ks ≡ map (λ k. m + k) ks
map_no_least m [] e = refl
map_no_least m (k ∷ ks) e =
    let first : k ≡ m + k = omega (arith, e) in
    λ i. first i ∷ map_no_least m ks e i
