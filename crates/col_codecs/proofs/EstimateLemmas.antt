-- The estimate of Linear, and the parts of its bytes.
use Rattle.std.proofs.Common.{◌≡◌, ℕ, ◌+◌, ◌*◌, ◌^◌, ◌<◌, ◌≤◌, List, ◌++◌, length, Some, None, refl, sym, ap, ◌∙◌, subst, arith, length-append}
use Rattle.std.proofs.lemmas.Bool.{lt-ltb, le-ltb}
use Rattle.std.proofs.Math.Nat.{mul-le-mul_left}
use Rattle.col_common.specs.Ascending.{AreBelow}
use Rattle.col_common.specs.VInt.{vint_bytes}
use Rattle.col_model.specs.Stats.{Stats, stats_of, steps_of, stats_bytes}
use Rattle.col_model.specs.U64List.{LinearParams as LineAndWidth}
use Rattle.col_model.specs.Codecs.{block_size, line_len, packed_len, params_bytes, offsets_from, packed_offsets, linear_line, linear_estimate, linear_body}
use Rattle.col_model.proofs.CodecLaws.{linear_line-writable, linear_offsets-fit}
use Rattle.col_model.proofs.WidthLaws.{width-most}
use Rattle.col_model.proofs.BlockLaws.{vint_bytes-most}

-- statistics take few bytes
pub stats_bytes-bound : (s : Stats) → length (stats_bytes s) ≤ 76
stats_bytes-bound s =
    let a = vint_bytes s.least in
    let b = vint_bytes s.divisor in
    let c = vint_bytes (steps_of s) in
    let d = vint_bytes s.count in
    omega (
      arith,
      length-append a (b ++ (c ++ d)),
      length-append b (c ++ d),
      length-append c d,
      vint_bytes-most s.least,
      vint_bytes-most s.divisor,
      vint_bytes-most (steps_of s),
      vint_bytes-most s.count,
    )

-- the line of a list has a width of at most 64
pub linear_width : (l : LineAndWidth) (xs : List ℕ) → l ≡ linear_line xs → l.offset_width ≤ 64
linear_width l xs e =
    let at : l.offset_width ≡ (linear_line xs).offset_width = ap (λ k. k.offset_width) e in omega
    (arith, at, width-most (linear_line xs).offset_width (linear_line-writable xs).offset_width)

-- the offsets from the line of a list fit its width
pub linear_fit : (l : LineAndWidth) (xs : List ℕ) → l ≡ linear_line xs → AreBelow (2 ^ l.offset_width) (offsets_from l xs)
linear_fit l xs e = subst (λ (k : LineAndWidth). AreBelow (2 ^ k.offset_width) (offsets_from k xs)) (sym e) (linear_offsets-fit xs)

-- the bits of fewer than 2 ^ 32 items
pub bits-fit : (n w : ℕ) → n < 2 ^ 32 → w ≤ 64 → n * w ≤ 2 ^ 38
bits-fit n w p q = let most : n * w ≤ n * 64 = mul-le-mul_left n q in omega (arith, most, p)

-- ---- the estimate

-- a list shorter than a block has no estimate under Linear
pub linear_estimate-few : (xs : List ℕ) → length xs < block_size → linear_estimate xs ≡ None
unfolding linear_estimate
linear_estimate-few xs h = rw (lt-ltb (length xs) block_size h) refl

-- the estimate is the statistics' length, the line's, a byte and that of the packed offsets
pub linear_estimate-parts : (xs : List ℕ) (s : Stats) (l : LineAndWidth) (n a b d : ℕ) → block_size ≤ length xs
    → n ≡ length xs → s ≡ stats_of xs → l ≡ linear_line xs → a ≡ length (stats_bytes s) → b ≡ line_len l
    → d ≡ packed_len n l.offset_width → Some (a + b + 1 + d) ≡ linear_estimate xs
unfolding linear_estimate
linear_estimate-parts xs s l n a b d h count stats line p q r =
    rw (le-ltb (length xs) block_size h, p, q, r, stats, line, count) refl

-- a list of a block or more has an estimate under Linear
pub linear_estimate-enough : (xs : List ℕ) → block_size ≤ length xs → linear_estimate xs ≡ None → ⊥
linear_estimate-enough xs h e =
    let some = linear_estimate-parts xs (stats_of xs) (linear_line xs) (length xs) _ _ _ h refl refl refl refl refl
    refl in absurd (cc)

-- ---- the bytes

-- the bytes of the statistics, the line and the packed offsets are the list's body
pub linear_body-parts : (xs : List ℕ) (s : Stats) (l : LineAndWidth) → s ≡ stats_of xs → l ≡ linear_line xs
    → stats_bytes s ++ (params_bytes l ++ packed_offsets l xs) ≡ linear_body xs
unfolding linear_body
linear_body-parts xs s l p q =
    ap (λ (t : Stats). stats_bytes t ++ (params_bytes l ++ packed_offsets l xs)) p
    ∙ ap (λ k. stats_bytes (stats_of xs) ++ (params_bytes k ++ packed_offsets k xs)) q
