-- Under Bitpacked a list has one spelling.
use Rattle.std.proofs.Common.{◌≡◌, ℕ, suc, ◌+◌, ◌-◌, ◌*◌, ◌/◌, ◌^◌, ◌<◌, ◌==◌, nat_lt, List, [], ◌∷◌, ◌++◌, map, length, Some, Option, true, sym, ◌∙◌, ap, arith, append_assoc, lit<, mul_comm, mul-div_cancel}
use Rattle.std.specs.List.{AllByRecursion}
use Rattle.std.specs.Int.{div_ceil}
use Rattle.std.proofs.lemmas.Bool.{and_parts, ltb-true, eqb-true, leb-true}
use Rattle.std.proofs.lemmas.Option.{option_and_then_some, cond_some, same_Some}
use Rattle.std.proofs.lemmas.Nat.{pow_pos}
use Rattle.col_common.specs.Ascending.{AreBelow}
use Rattle.col_common.specs.Reading.{IsBytes, only_if, ◌>>=◌}
use Rattle.col_common.specs.VInt.{vint, vint_bytes}
use Rattle.col_bits.specs.Packed.{number_of, digits, packed, packed_bytes, width}
use Rattle.col_model.specs.Stats.{Stats, stats_at, stats_bytes, stats_of, steps_of, are_possible, same_stats}
use Rattle.col_model.specs.U64List.{values64, bitpacked_values, bitpacked_bytes}
use Rattle.col_common.proofs.VIntLemmas.{vint_bytes-vint}
use Rattle.col_model.proofs.StatsLaws.{map-map, map-same}
use Rattle.col_bits.proofs.PackedLemmas.{digits-number_of, number_of-digits, length-digits, pow-pow}

-- bytes are numbers below 256, told by recursion
pub bytes_by_recursion : (bytes : List ℕ) → IsBytes bytes → AreBelow 256 bytes
bytes_by_recursion [] b = tt
bytes_by_recursion (c ∷ bytes) b = (b 0, bytes_by_recursion bytes (λ i. b (suc i)))

-- what stands behind a part
pub IsBytes-behind : (a rest : List ℕ) → IsBytes (a ++ rest) → IsBytes rest
IsBytes-behind [] rest b = b
IsBytes-behind (c ∷ a) rest b = IsBytes-behind a rest (λ i. b (suc i))

-- packed items have one spelling
pub packed_bytes-packed : (bytes : List ℕ) (w n : ℕ) (xs : List ℕ) → IsBytes bytes → packed bytes w n ≡ Some xs → bytes ≡ packed_bytes w xs
unfolding packed
packed_bytes-packed bytes w n xs b e =
    let found = cond_some _ (digits (2 ^ w) n (number_of 256 bytes)) xs e in
    let parts = and_parts (length bytes == div_ceil (n * w) 8) (nat_lt (number_of 256 bytes) (2 ^ (n * w))) found.0 in
    let long : length xs ≡ n = ap length (sym found.1) ∙ length-digits (2 ^ w) n (number_of 256 bytes) in
    let less : number_of 256 bytes < (2 ^ w) ^ n = rw (pow-pow w n) (ltb-true _ (2 ^ (n * w)) parts.1) in
    let back : number_of (2 ^ w) xs ≡ number_of 256 bytes =
    ap (number_of (2 ^ w)) (sym found.1) ∙ number_of-digits (2 ^ w) n (number_of 256 bytes) (pow_pos w) less in
    rw (back, long, ← eqb-true (length bytes) (div_ceil (n * w) 8) parts.0)
    (sym (digits-number_of 256 bytes (lit< tt) (bytes_by_recursion bytes b)))

-- a number behind which bytes stand: its form, and they are bytes
after-vint : (bytes : List ℕ) (n : ℕ) (rest : List ℕ) → IsBytes bytes → vint bytes ≡ Some (n, rest)
    → (bytes ≡ vint_bytes n ++ rest) × IsBytes rest
after-vint bytes n rest b e =
    let spelled = vint_bytes-vint bytes n rest b e in
    (spelled, IsBytes-behind (vint_bytes n) rest (rw spelled at b))

-- the statistics of four numbers
abbrev pub of_parts : ℕ → ℕ → ℕ → ℕ → Stats
of_parts least divisor steps count = record { least = least; greatest = least + divisor * steps; divisor = divisor; count = count }

-- the steps of `stats_at`
abbrev pub with_count : ℕ → ℕ → ℕ → ℕ × List ℕ → Option (Stats × List ℕ)
with_count least divisor steps count = only_if (are_possible least divisor steps count.0) (of_parts least divisor steps count.0, count.1)

-- statistics read on from the steps, after the least and the divisor
abbrev pub with_steps : ℕ → ℕ → ℕ × List ℕ → Option (Stats × List ℕ)
with_steps least divisor steps = vint steps.1 >>= with_count least divisor steps.0

-- statistics read on from the divisor, after the least
abbrev pub with_divisor : ℕ → ℕ × List ℕ → Option (Stats × List ℕ)
with_divisor least divisor = vint divisor.1 >>= with_steps least divisor.0

-- statistics read on from the least
abbrev pub with_least : ℕ × List ℕ → Option (Stats × List ℕ)
with_least least = vint least.1 >>= with_divisor least.0

turns : (l d k : ℕ) → 0 < d → (l + d * k - l) / d ≡ k
turns l d k p = let e : l + d * k - l ≡ k * d = omega (arith, mul_comm d k) in rw e (mul-div_cancel k p)

-- four numbers that are possible statistics
four-spelled : (bytes : List ℕ) (least divisor steps count : ℕ × List ℕ) (s : Stats) (rest : List ℕ) → IsBytes bytes
    → vint bytes ≡ Some least → vint least.1 ≡ Some divisor → vint divisor.1 ≡ Some steps
    → vint steps.1 ≡ Some count → with_count least.0 divisor.0 steps.0 count ≡ Some (s, rest)
    → (bytes ≡ stats_bytes s ++ rest) × IsBytes rest
four-spelled bytes least divisor steps count s rest b p q r t e =
    let found = cond_some (are_possible least.0 divisor.0 steps.0 count.0)
    (of_parts least.0 divisor.0 steps.0 count.0, count.1) (s, rest) e in
    let same : of_parts least.0 divisor.0 steps.0 count.0 ≡ s = ap (λ x. x.0) found.1 in
    let behind : count.1 ≡ rest = ap (λ x. x.1) found.1 in
    let one = after-vint bytes least.0 least.1 b p in
    let two = after-vint least.1 divisor.0 divisor.1 one.1 q in
    let three = after-vint divisor.1 steps.0 steps.1 two.1 r in
    let four = after-vint steps.1 count.0 count.1 three.1 t in
    let positive : 0 < divisor.0 = omega (
      arith,
      leb-true 1 divisor.0 (and_parts _ _ (and_parts _ _ (and_parts _ _ (and_parts _ _ found.0).0).0).0).0,
    ) in
    let spelled : bytes ≡ (vint_bytes least.0 ++ (vint_bytes divisor.0 ++ (vint_bytes steps.0 ++ vint_bytes count.0))) ++ count.1 =
    rw (
      append_assoc (vint_bytes least.0) (vint_bytes divisor.0 ++ (vint_bytes steps.0 ++ vint_bytes count.0))
          count.1,
      append_assoc (vint_bytes divisor.0) (vint_bytes steps.0 ++ vint_bytes count.0) count.1,
      append_assoc (vint_bytes steps.0) (vint_bytes count.0) count.1,
      ← four.0,
      ← three.0,
      ← two.0,
    ) one.0 in
    let steps_same : steps_of (of_parts least.0 divisor.0 steps.0 count.0) ≡ steps.0 = turns least.0 divisor.0 steps.0 positive in
    rw (← same, ← behind, steps_same) (spelled, four.1)

-- statistics have one spelling
pub stats_bytes-stats_at : (bytes : List ℕ) (s : Stats) (rest : List ℕ) → IsBytes bytes
    → stats_at bytes ≡ Some (s, rest) → (bytes ≡ stats_bytes s ++ rest) × IsBytes rest
unfolding stats_at
stats_bytes-stats_at bytes s rest b e =
    option_and_then_some with_least (vint bytes) (s, rest) e (λ least p e1.
    option_and_then_some (with_divisor least.0) (vint least.1) (s, rest) e1 (λ divisor q e2.
    option_and_then_some (with_steps least.0 divisor.0) (vint divisor.1) (s, rest) e2 (λ steps r e3.
    option_and_then_some (with_count least.0 divisor.0 steps.0) (vint steps.1) (s, rest) e3 (λ count t e4.
    four-spelled bytes least divisor steps count s rest b p q r t e4))))

-- equal in each part
pub same_stats-equal : (a b : Stats) → same_stats a b ≡ true → a ≡ b
same_stats-equal a b e =
    let d = and_parts _ _ e in
    let c = and_parts _ _ d.0 in
    let l = and_parts _ _ c.0 in
    λ i. record {
      least = eqb-true a.least b.least l.0 i;
      greatest = eqb-true a.greatest b.greatest l.1 i;
      divisor = eqb-true a.divisor b.divisor c.1 i;
      count = eqb-true a.count b.count d.1 i;
    }

-- the divisor of statistics is none that divides nothing
pub divisor-positive : (xs : List ℕ) → 0 < (stats_of xs).divisor
unfolding stats_of
divisor-positive xs = omega arith

all_true : (P : ℕ → Type 0) → ((k : ℕ) → P k) → (ks : List ℕ) → AllByRecursion P ks
all_true P f [] = tt
all_true P f (k ∷ ks) = (f k, all_true P f ks)

-- the counts of divisors are those packed
steps-again : (s : Stats) (ks : List ℕ) → 0 < s.divisor → map (λ x. (x - s.least) / s.divisor) (map (λ k. s.least + s.divisor * k) ks) ≡ ks
steps-again s ks p =
    map-map (λ k. s.least + s.divisor * k) (λ x. (x - s.least) / s.divisor) ks
    ∙ map-same (λ k. (s.least + s.divisor * k - s.least) / s.divisor) ks
    (all_true (λ k. (s.least + s.divisor * k - s.least) / s.divisor ≡ k) (λ k. turns s.least s.divisor k p) ks)

body-spelled : (s : Stats) (bytes ks xs : List ℕ) → IsBytes bytes → s ≡ stats_of xs
    → map (λ k. s.least + s.divisor * k) ks ≡ xs → packed bytes (width (steps_of s)) s.count ≡ Some ks
    → bytes ≡ packed_bytes (width (steps_of s)) (map (λ x. (x - s.least) / s.divisor) xs)
body-spelled s bytes ks xs b same e p =
    let positive : 0 < s.divisor = rw same (divisor-positive xs) in
    packed_bytes-packed bytes (width (steps_of s)) s.count ks b p
    ∙ ap (packed_bytes (width (steps_of s)))
    (sym (steps-again s ks positive) ∙ ap (map (λ x. (x - s.least) / s.divisor)) e)

-- Bytes that stand for a list under Bitpacked are its one form.
pub bitpacked_bytes-values64 : (bytes xs : List ℕ) → IsBytes bytes → values64 (0 ∷ bytes) ≡ Some xs → 0 ∷ bytes ≡ bitpacked_bytes xs
unfolding values64 bitpacked_values
bitpacked_bytes-values64 bytes xs b e =
    option_and_then_some (λ (s : Stats × List ℕ). bitpacked_values s.0 s.1 >>= λ ys. only_if
    (same_stats (stats_of ys) s.0) ys) (stats_at bytes) xs e (λ s o e1.
    option_and_then_some (λ ys. only_if (same_stats (stats_of ys) s.0) ys) (bitpacked_values s.0 s.1) xs e1 (λ ys q e2.
    option_and_then_some (λ ks. Some (map (λ k. s.0.least + s.0.divisor * k) ks)) (packed s.1 (width (steps_of s.0))
    s.0.count) ys q (λ ks r e3.
    let found = cond_some (same_stats (stats_of ys) s.0) ys xs e2 in
    let same : s.0 ≡ stats_of xs = sym (same_stats-equal (stats_of ys) s.0 found.0) ∙ ap stats_of found.1 in
    let head = stats_bytes-stats_at bytes s.0 s.1 b o in
    let body = body-spelled s.0 s.1 ks xs head.1 same (same_Some _ ys e3 ∙ found.1) r in
    ap (λ t. 0 ∷ t) (head.0 ∙ ap (λ t. stats_bytes s.0 ++ t) body
    ∙ ap (λ z. stats_bytes z ++ packed_bytes (width (steps_of z)) (map (λ x. (x - z.least) / z.divisor) xs))
    same))))
