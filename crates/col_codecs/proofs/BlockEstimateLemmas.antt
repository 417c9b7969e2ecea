-- Estimates of BlockwiseLinear, block by block.
use Rattle.std.proofs.Common.{◌≡◌, ℕ, zero, suc, ◌+◌, ◌-◌, ◌*◌, ◌/◌, ◌^◌, ◌<◌, ◌≤◌, List, [], ◌∷◌, ◌++◌, length, take, drop, map, sum, refl, sym, ◌∙◌, ap, arith, length-append, length-take, length-drop}
use Rattle.std.specs.Int.{div_ceil}
use Rattle.std.proofs.lemmas.List.{take_all, map-append}
use Rattle.std.proofs.lemmas.List.Sums.{sum_by_push, sum_by-cons}
use Rattle.std.proofs.lemmas.Nat.{leading_length}
use Rattle.std.proofs.Math.Nat.{mul-le-mul_left}
use lib.Count.{count_leading_zeros}
use Rattle.col_bits.proofs.WidthLemmas.{binary_digits-is}
use Rattle.col_model.specs.Stats.{Stats, stats_of, stats_bytes, greatest_of}
use Rattle.col_model.specs.Training.{line_of}
use Rattle.col_model.specs.U64List.{LinearParams}
use Rattle.col_model.specs.Codecs.{block_size, block_estimate, block_line, cut_blocks, blocks_of, block_count, line_len, offsets_from, log2, blockwise_estimate, blockwise_body, blocks_bytes, steps_above}
use Rattle.col_model.proofs.CutLaws.{block_at, cut_blocks-more, cut_blocks-append}
use Rattle.col_model.proofs.BlockLaws.{vint_bytes-most}
use Rattle.std.proofs.Math.Seq.{drop-append_seam}
use Rattle.col_codecs.proofs.WidthLemmas.{width-bound}

-- the binary logarithm by leading zeros
pub log2-zeros : (n : ℕ) → 0 < n → n < 2 ^ 64 → 63 - count_leading_zeros 64 n ≡ log2 n
log2-zeros n positive fits =
    let found = leading_length 64 n fits in
    let m : ℕ = found.0 in
    let count : count_leading_zeros 64 n + m ≡ 64 = found.1 in
    omega (arith, count, binary_digits-is 64 n m (omega (arith, count)) found.2 found.3)

-- ---- a block's estimate

-- the line of a block has a width of at most 64
pub block_line-width : (b : List ℕ) → (block_line b).offset_width ≤ 64
unfolding block_line
block_line-width b =
    let l = line_of b in let bare : LinearParams = record { slope = l.0; intercept = l.1; offset_width = 0 } in
    width-bound (greatest_of (offsets_from bare b))

-- an estimate by its parts
pub block_estimate-parts : (b : List ℕ) (l : LinearParams) (n w d : ℕ) → l ≡ block_line b → n ≡ line_len l
    → w ≡ l.offset_width → d ≡ div_ceil (length b * w) 8 → 1 + n + d ≡ block_estimate b
block_estimate-parts b l n w d e p q r = rw (← e) (rw (p, r, q) refl)

-- a block of 512 values takes at most nine bytes a value
pub block_estimate-bound : (b : List ℕ) → length b ≤ block_size → block_estimate b ≤ 9 * block_size
block_estimate-bound b h =
    let l = block_line b in
    let bits : length b * l.offset_width ≤ length b * 64 = mul-le-mul_left (length b) (block_line-width b) in
    omega (arith, bits, vint_bytes-most l.slope, vint_bytes-most l.intercept)

-- ---- blocks

-- one block more
cut_blocks-push : (k : ℕ) (xs ys : List ℕ) → length xs ≡ k * block_size → length ys ≤ block_size
    → cut_blocks (k + 1) (xs ++ ys) ≡ cut_blocks k xs ++ ys ∷ []
cut_blocks-push k xs ys e h =
    let whole : length xs ≡ 512 * k = omega arith in
    let last : block_at k (xs ++ ys) ≡ ys = ap (λ n. take block_size (drop n (xs ++ ys))) (sym whole)
    ∙ ap (take block_size) (drop-append_seam xs ys) ∙ take_all block_size ys h in
    cut_blocks-more k (xs ++ ys)
    ∙ ap (λ bs. bs ++ block_at k (xs ++ ys) ∷ []) (cut_blocks-append k xs ys (omega arith))
    ∙ ap (λ b. cut_blocks k xs ++ b ∷ []) last

-- what whole blocks add to the estimate
abbrev pub estimated : ℕ → List ℕ → ℕ
estimated k xs = sum (map block_estimate (cut_blocks k xs))

-- one more block, the last, adds its own estimate to that of the whole blocks before
pub estimated-push : (k : ℕ) (xs ys : List ℕ) → length xs ≡ k * block_size → length ys ≤ block_size
    → estimated (k + 1) (xs ++ ys) ≡ estimated k xs + block_estimate ys
estimated-push k xs ys e h =
    ap (λ bs. sum (map block_estimate bs)) (cut_blocks-push k xs ys e h)
    ∙ ap sum (map-append block_estimate (cut_blocks k xs) (ys ∷ []))
    ∙ sum_by_push (λ (n : ℕ). n) (map block_estimate (cut_blocks k xs)) (block_estimate ys)

-- nine bytes a value
pub estimated-bound : (k : ℕ) (xs : List ℕ) → length xs ≡ k * block_size → estimated k xs ≤ 9 * length xs
unfolding cut_blocks
estimated-bound zero xs e = omega arith
estimated-bound (suc k) xs e =
    let first : length (take block_size xs) ≤ block_size = omega (arith, length-take block_size xs) in
    let rest : length (drop block_size xs) ≡ k * block_size = omega (arith, length-drop block_size xs) in
    let sums : estimated (suc k) xs ≡ block_estimate (take block_size xs) + estimated k (drop block_size xs) =
    sum_by-cons (λ (n : ℕ). n) (block_estimate (take block_size xs))
    (map block_estimate (cut_blocks k (drop block_size xs))) in
    omega (
      arith,
      sums,
      block_estimate-bound (take block_size xs) first,
      estimated-bound k (drop block_size xs) rest,
      length-drop block_size xs,
    )

-- the last block is shorter
pub estimated-last : (k : ℕ) (xs ys : List ℕ) → length xs ≡ k * block_size → length ys ≤ block_size → 0 < length ys
    → estimated k xs + block_estimate ys ≡ sum (map block_estimate (blocks_of (xs ++ ys)))
estimated-last k xs ys e h p =
    let n : k + 1 ≡ block_count (length (xs ++ ys)) = omega (arith, length-append xs ys) in
    sym (estimated-push k xs ys e h) ∙ ap (λ m. estimated m (xs ++ ys)) n

-- ---- the estimate

-- the statistics of a list count its items
pub count-is : (s : Stats) (xs : List ℕ) → s ≡ stats_of xs → s.count ≡ length xs
unfolding stats_of
count-is s xs e = rw e refl

-- each block adds a bounded count of bytes
sum-bound : (k : ℕ) (xs : List ℕ) → sum (map block_estimate (cut_blocks k xs)) ≤ 9 * block_size * k
unfolding cut_blocks
sum-bound zero xs = omega arith
sum-bound (suc k) xs =
    let first : length (take block_size xs) ≤ block_size = omega (arith, length-take block_size xs) in
    let sums : estimated (suc k) xs ≡ block_estimate (take block_size xs) + estimated k (drop block_size xs) =
    sum_by-cons (λ (n : ℕ). n) (block_estimate (take block_size xs))
    (map block_estimate (cut_blocks k (drop block_size xs))) in
    omega (arith, sums, block_estimate-bound (take block_size xs) first, sum-bound k (drop block_size xs))

-- the blocks of fewer than 2 ^ 32 items take at most 2 ^ 36 bytes
pub blocks-bound : (xs : List ℕ) → length xs < 2 ^ 32 → sum (map block_estimate (blocks_of xs)) ≤ 2 ^ 36
blocks-bound xs few = omega (arith, sum-bound (block_count (length xs)) xs)

-- the estimate is eight bytes, the statistics' and the blocks', less what the divisor spares
pub blockwise_estimate-parts : (xs : List ℕ) (s : Stats) (a b l n r : ℕ) → s ≡ stats_of xs
    → a ≡ length (stats_bytes s) → b ≡ sum (map block_estimate (blocks_of xs)) → l ≡ log2 s.divisor → n ≡ s.count
    → r ≡ 8 + a + b - l * n / 8 → r ≡ blockwise_estimate xs
unfolding blockwise_estimate
blockwise_estimate-parts xs s a b l n r e p q t c is =
    let count : n ≡ length xs = c ∙ count-is s xs e in
    is ∙ ap (λ m. 8 + m + b - l * n / 8) p ∙ ap (λ m. 8 + length (stats_bytes s) + m - l * n / 8) q
    ∙ ap (λ m. 8 + length (stats_bytes s) + sum (map block_estimate (blocks_of xs)) - m * n / 8) t
    ∙ ap (λ m. 8 + length (stats_bytes s) + sum (map block_estimate (blocks_of xs)) - log2 s.divisor * m / 8)
    count ∙ ap (λ (k : Stats). 8 + length (stats_bytes k) + sum (map block_estimate (blocks_of xs))
    - log2 k.divisor * length xs / 8) e

-- ---- the bytes

-- the bytes of the statistics and of the steps' blocks are the list's body
pub blockwise_body-parts : (xs : List ℕ) (s : Stats) → s ≡ stats_of xs
    → stats_bytes s ++ blocks_bytes (blocks_of (steps_above s xs)) ≡ blockwise_body xs
unfolding blockwise_body
blockwise_body-parts xs s e = ap (λ (t : Stats). stats_bytes t ++ blocks_bytes (blocks_of (steps_above t xs))) e
