-- Blocks that are written one after another.
use Rattle.std.proofs.Common.{◌≡◌, ℕ, ◌+◌, ◌-◌, ◌*◌, ◌/◌, ◌^◌, ◌<◌, ◌≤◌, min, List, [], ◌∷◌, ◌++◌, length, take, drop, map, flat_map, refl, sym, ◌∙◌, ap, arith, inl, inr, append-nil}
use Rattle.std.specs.Int.{w64, to_le_bytes, div_ceil}
use Rattle.std.proofs.lemmas.List.{take_all, drop_all, drop-drop, take-map, drop-map, map-append, length-drop, length-map, length-take-le}
use Rattle.std.proofs.lemmas.Grind.{flat_map-append}
use Rattle.std.proofs.lemmas.Bool.{cases_lt}
use Rattle.col_common.specs.Ascending.{AreBelow}
use Rattle.col_model.specs.Stats.{Stats, least_of, stats_of}
use Rattle.col_model.proofs.ListLaws.{all_taken, all_dropped}
use Rattle.col_model.specs.U64List.{LinearParams, joined_lists}
use Rattle.col_model.specs.Codecs.{block_size, cut_blocks, packed_block, lines_bytes, blocks_bytes, params_bytes, offsets_from, block_line, block_count, steps_above}
use Rattle.col_model.proofs.CutLaws.{joined_lists-push, block_at, cut_blocks-more}
use Rattle.col_model.proofs.StatsLaws.{least_of-all, all_by}
use Rattle.col_model.proofs.CodecLaws.{block_offsets-fit}
use Rattle.col_codecs.specs.Blocks.{IsBlock}
use Rattle.col_codecs.proofs.BlockEstimateLemmas.{block_line-width, count-is}

-- the packed blocks so far, and their lines
abbrev pub packed_so_far : List ℕ → ℕ → List ℕ
packed_so_far ks k = joined_lists (map packed_block (cut_blocks k ks))

-- the lines of the first k blocks
abbrev pub lines_so_far : List ℕ → ℕ → List ℕ
lines_so_far ks k = lines_bytes (cut_blocks k ks)

-- one block more is packed behind the others
pub packed_so_far-more : (ks : List ℕ) (k : ℕ) → packed_so_far ks (k + 1) ≡ packed_so_far ks k ++ packed_block (block_at k ks)
packed_so_far-more ks k =
    ap (λ bs. joined_lists (map packed_block bs)) (cut_blocks-more k ks)
    ∙ ap joined_lists (map-append packed_block (cut_blocks k ks) (block_at k ks ∷ []))
    ∙ joined_lists-push (map packed_block (cut_blocks k ks)) (packed_block (block_at k ks))

-- one block more has its line behind the others'
pub lines_so_far-more : (ks : List ℕ) (k : ℕ) → lines_so_far ks (k + 1) ≡ lines_so_far ks k ++ params_bytes (block_line (block_at k ks))
lines_so_far-more ks k =
    let spelled : List ℕ → List ℕ = λ b. params_bytes (block_line b) in
    ap (flat_map spelled) (cut_blocks-more k ks)
    ∙ flat_map-append spelled (cut_blocks k ks) (block_at k ks ∷ [])
    ∙ ap (λ r. lines_so_far ks k ++ r) (append-nil (spelled (block_at k ks)))

-- the steps of the values that are taken are the next block of steps
pub steps_above-block : (s : Stats) (xs part : List ℕ) (k n : ℕ) → n ≡ min block_size (length (drop (512 * k) xs))
    → part ≡ take n (drop (512 * k) xs) → steps_above s part ≡ block_at k (steps_above s xs)
steps_above-block s xs part k n e p =
    let f : ℕ → ℕ = λ x. (x - s.least) / s.divisor in
    let rest = drop (512 * k) xs in
    ap (map f) (p ∙ taken rest n e)
    ∙ sym (take-map f block_size rest)
    ∙ ap (take block_size) (sym (drop-map f (512 * k) xs))
  where
    taken : (ys : List ℕ) (n : ℕ) → n ≡ min block_size (length ys) → take n ys ≡ take block_size ys
    taken ys n e = elim (cases_lt (length ys) block_size) [
      | inl h ↦ take_all n ys (omega arith) ∙ sym (take_all block_size ys (omega arith))
      | inr h ↦ (let m : n ≡ block_size = omega arith in ap (λ j. take j ys) m)
    ]

-- a block of steps with its line and its offsets
pub record IsTrained (steps offsets : List ℕ) (l : LinearParams) : Type 0 where
  pub slope : l ≡ block_line steps
  pub offsets_are : offsets ≡ offsets_from (block_line steps) steps

-- a trained line has a width of at most 64
pub trained-width : (steps offsets : List ℕ) (l : LinearParams) → IsTrained steps offsets l → l.offset_width ≤ 64
trained-width steps offsets l h = rw h.slope (block_line-width steps)

-- the offsets from a trained line fit its width
pub trained-small : (steps offsets : List ℕ) (l : LinearParams) → IsTrained steps offsets l → AreBelow (2 ^ l.offset_width) offsets
trained-small steps offsets l h = rw (h.slope, h.offsets_are) (block_offsets-fit steps)

-- ---- the values

least-is : (s : Stats) (xs : List ℕ) → s ≡ stats_of xs → s.least ≡ least_of xs
unfolding stats_of
least-is s xs e = rw e refl

divisor-above : (s : Stats) (xs : List ℕ) → s ≡ stats_of xs → 0 < s.divisor
unfolding stats_of
divisor-above s xs e = rw e (omega arith)

-- as many as a block has room for are taken of those that are left
pub taken-count : (xs block left : List ℕ) (k n : ℕ) → n ≡ min (length block) (length left) → length block ≡ 512
    → left ≡ drop (512 * k) xs → n ≡ min block_size (length (drop (512 * k) xs))
taken-count xs block left k n e room rest = omega (arith, e, room, ap length rest)

-- the values that are taken are a block
pub IsBlock-taken : (s : Stats) (xs part : List ℕ) (blocks k n : ℕ) → s ≡ stats_of xs
    → blocks ≡ div_ceil s.count 512 → k < blocks → n ≡ min block_size (length (drop (512 * k) xs))
    → part ≡ take n (drop (512 * k) xs) → IsBlock s part
IsBlock-taken s xs part blocks k n e b h m p =
    let rest = drop (512 * k) xs in
    let long : length part ≡ n = ap length p ∙ length-take-le n rest (omega (arith, m)) in
    record {
      some = omega (arith, count-is s xs e, b, h, m, long, length-drop (512 * k) xs);
      small = omega (arith, m, long);
      above =
          all_by (λ x h. (h, divisor-above s xs e)) part (rw (p, least-is s xs e) (all_taken (λ x. least_of xs ≤ x)
          n rest (all_dropped (λ x. least_of xs ≤ x) (512 * k) xs (least_of-all xs))));
    }

-- what is left behind them
pub left-next : (xs : List ℕ) (k n : ℕ) → n ≡ min block_size (length (drop (512 * k) xs))
    → drop n (drop (512 * k) xs) ≡ drop (512 * (k + 1)) xs
left-next xs k n e =
    let rest = drop (512 * k) xs in
    let next : block_size + 512 * k ≡ 512 * (k + 1) = omega arith in
    behind rest n e ∙ drop-drop block_size (512 * k) xs ∙ ap (λ m. drop m xs) (omega arith)
  where
    behind : (ys : List ℕ) (n : ℕ) → n ≡ min block_size (length ys) → drop n ys ≡ drop block_size ys
    behind ys n e = elim (cases_lt (length ys) block_size) [
      | inl h ↦ drop_all n ys (omega arith) ∙ sym (drop_all block_size ys (omega arith))
      | inr h ↦ (let m : n ≡ block_size = omega arith in ap (λ j. drop j ys) m)
    ]

-- the blocks so far are all
pub all_blocks : (s : Stats) (xs : List ℕ) (blocks k : ℕ) → s ≡ stats_of xs → blocks ≡ div_ceil s.count 512
    → k ≡ blocks → k ≡ block_count (length (steps_above s xs))
all_blocks s xs blocks k e b h = h ∙ b ∙ ap (λ n. div_ceil n 512) (count-is s xs e ∙ sym (length-map xs (λ x. (x - s.least) / s.divisor)))

-- ---- blocks, their lines, and the length of the lines

-- the packed blocks, their lines and the length of these are the bytes of the blocks
pub blocks_bytes-parts : (bs : List (List ℕ)) (lines : List ℕ) → lines ≡ lines_bytes bs
    → joined_lists (map packed_block bs) ++ (lines ++ to_le_bytes w64 (length lines)) ≡ blocks_bytes bs
unfolding blocks_bytes
blocks_bytes-parts bs lines e = ap (λ ls. joined_lists (map packed_block bs) ++ (ls ++ to_le_bytes w64 (length ls))) e
