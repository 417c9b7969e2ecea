-- Under BlockwiseLinear a list is read back.
use Rattle.std.proofs.Common.{◌≡◌, ℕ, zero, suc, ◌+◌, ◌-◌, ◌*◌, ◌/◌, ◌%◌, ◌^◌, ◌<◌, ◌≤◌, inl, inr, List, [], ◌∷◌, ◌++◌, map, length, take, drop, Some, refl, ap, sym, ◌∙◌, arith, append_assoc, append-nil, length-append, mod-eq_of_lt, div-le_self}
use Rattle.std.specs.Int.{div_ceil}
use Rattle.std.specs.List.{AllByRecursion}
use Rattle.std.proofs.lemmas.Bool.{cases_lt}
use Rattle.std.proofs.lemmas.List.{length-map, length-take, length-drop, take-append-drop}
use Rattle.std.proofs.lemmas.List.Folds.{flat_map-map}
use Rattle.col_common.specs.Ascending.{AreBelow}
use Rattle.col_common.specs.Reading.{◌>>=◌, nothing_left, items}
use Rattle.col_common.specs.VInt.{group_bytes, vint_bytes}
use Rattle.col_common.proofs.VIntLemmas.{group_bytes-short, group_bytes-long}
use Rattle.col_bits.specs.Packed.{number_of}
use Rattle.col_bits.proofs.PackedLemmas.{length-digits}
use Rattle.col_model.specs.Stats.{Stats, stats_of}
use Rattle.col_model.specs.U64List.{LinearParams, params_at, block_len, blocks, joined_lists, blockwise_values}
use Rattle.col_model.specs.Codecs.{params_bytes, offsets_from, block_size, cut_blocks, block_count, blocks_of, block_line, packed_block, lines_bytes, blocks_bytes, steps_above, blockwise_body}
use Rattle.col_model.specs.Laws.{BlockwiseIsReadBack}
use Rattle.col_model.proofs.StatsLaws.{all_by, mapped_all, map-map, map-same}
use Rattle.col_model.proofs.ListLaws.{all_taken, all_dropped}
use Rattle.col_model.proofs.ReadingLaws.{front-append, parts_by_second-w64, items-flat_map}
use Rattle.col_model.proofs.U64ListLaws.{stats_of-describes, steps_list-back}
use Rattle.col_model.proofs.CodecLaws.{IsWritable, params_at-params_bytes, block_line-writable, block_offsets-fit}
use Rattle.col_model.proofs.LinearLaws.{length-offsets_from, packed-packed_offsets, items-above_line, values64-behind_stats}

-- ---- cuts into blocks

pub length-cut_blocks : (k : ℕ) (xs : List ℕ) → length (cut_blocks k xs) ≡ k
unfolding cut_blocks
length-cut_blocks zero xs = refl
length-cut_blocks (suc k) xs = ap suc (length-cut_blocks k (drop block_size xs))

-- blocks one after another are the list
pub joined-cut_blocks : (k : ℕ) (xs : List ℕ) → length xs ≤ 512 * k → joined_lists (cut_blocks k xs) ≡ xs
unfolding cut_blocks
joined-cut_blocks zero [] h = refl
joined-cut_blocks zero (x ∷ xs) h = absurd (omega arith)
joined-cut_blocks (suc k) xs h =
    rw (joined-cut_blocks k (drop block_size xs) (rw (length-drop block_size xs) (omega arith)))
    (take-append-drop block_size xs)

-- ---- blocks are read back

length-packed_block : (b : List ℕ) → length (packed_block b) ≡ div_ceil (length b * (block_line b).offset_width) 8
length-packed_block b =
    let l = block_line b in
    let os = offsets_from l b in
    length-digits 256 (div_ceil (length os * l.offset_width) 8) (number_of (2 ^ l.offset_width) os)
    ∙ ap (λ n. div_ceil (n * l.offset_width) 8) (length-offsets_from l b)

block_len-taken : (xs : List ℕ) → length (take block_size xs) ≡ block_len (length xs)
block_len-taken xs = length-take block_size xs ∙ omega arith

-- blocks are read back from their lines and their packed offsets, whatever follows
pub blocks-cut_blocks : (k : ℕ) (xs rest : List ℕ) → AreBelow (2 ^ 64) xs
    → let bs = cut_blocks k xs in blocks (length xs) (map block_line bs)
    (joined_lists (map packed_block bs) ++ rest) ≡ Some (bs, rest)
unfolding blocks cut_blocks
blocks-cut_blocks zero xs rest all = refl
blocks-cut_blocks (suc k) xs rest all =
    let b = take block_size xs in
    let l = block_line b in
    let bs = cut_blocks k (drop block_size xs) in
    let behind = joined_lists (map packed_block bs) ++ rest in
    let count = block_len-taken xs in
    let cut = front-append (div_ceil (block_len (length xs) * l.offset_width) 8) (packed_block b) behind
    (rw (← count) (sym (length-packed_block b))) in
    let offsets = rw count at (packed-packed_offsets l b (block_offsets-fit b)) in
    let later = rw (length-drop block_size xs) at
    (blocks-cut_blocks k (drop block_size xs) rest (all_dropped (λ x. x < 2 ^ 64) block_size xs all)) in
    rw (append_assoc, cut, offsets, later, items-above_line l b (all_taken (λ x. x < 2 ^ 64) block_size xs all)) refl

-- ---- lines are read back

lines-writable : (bs : List (List ℕ)) → AllByRecursion IsWritable (map block_line bs)
lines-writable [] = tt
lines-writable (b ∷ bs) = (block_line-writable b, lines-writable bs)

pub items-lines_bytes : (n : ℕ) (bs : List (List ℕ)) → n ≡ length bs
    → (items params_at n (lines_bytes bs) >>= nothing_left) ≡ Some (map block_line bs)
items-lines_bytes n bs e =
    let read = items-flat_map params_at params_bytes IsWritable params_at-params_bytes (map block_line bs) [] (lines-writable bs) in
    let same = rw (append-nil, flat_map-map params_bytes block_line bs, length-map bs block_line, ← e) at read in
    rw same refl

-- k groups at most
pub length-group_bytes : (k n : ℕ) → length (group_bytes k n) ≤ k
unfolding group_bytes
length-group_bytes zero n = omega arith
length-group_bytes (suc k) n =
    elim (cases_lt n 128) [
      | inl p ↦ rw (group_bytes-short k n p) (omega arith)
      | inr p ↦ rw (group_bytes-long k n p) (omega (arith, length-group_bytes k (n / 128)))
    ]

-- a number is spelled by at most 19 bytes
pub vint_bytes-most : (n : ℕ) → length (vint_bytes n) ≤ 19
vint_bytes-most n = length-group_bytes 19 n

length-params_bytes : (l : LinearParams) → length (params_bytes l) ≤ 39
unfolding params_bytes
length-params_bytes l = rw (length-append, length-append) (omega (arith, length-group_bytes 19 l.slope, length-group_bytes 19 l.intercept))

pub length-lines_bytes : (bs : List (List ℕ)) → length (lines_bytes bs) ≤ 39 * length bs
length-lines_bytes [] = omega arith
length-lines_bytes (b ∷ bs) =
    rw (length-append (params_bytes (block_line b)) (lines_bytes bs))
    (omega (arith, length-params_bytes (block_line b), length-lines_bytes bs))

-- ---- lists are read back

-- the blocks of numbers, where a reader knows how many there are
pub blockwise_values-back : (s : Stats) (ks : List ℕ) → s.count ≡ length ks → length ks < 2 ^ 32
    → AreBelow (2 ^ 64) ks
    → blockwise_values s (blocks_bytes (blocks_of ks)) ≡ Some (map (λ k. (s.least + s.divisor * k) % 2 ^ 64) ks)
unfolding blockwise_values blocks_bytes
blockwise_values-back s ks count len all =
    let k = block_count (length ks) in
    let bs = cut_blocks k ks in
    let packs = joined_lists (map packed_block bs) in
    let lines = lines_bytes bs in
    let few : length lines < 2 ^ 64 = omega (arith, length-lines_bytes bs, length-cut_blocks k ks) in
    let parts = rw append_assoc at (parts_by_second-w64 packs lines few) in
    let read = rw append-nil at (blocks-cut_blocks k ks [] all) in
    rw (parts, count, items-lines_bytes k bs (sym (length-cut_blocks k ks)), read, joined-cut_blocks k ks (omega arith)) refl

wrapped : (xs : List ℕ) → AreBelow (2 ^ 64) xs → map (λ x. x % 2 ^ 64) xs ≡ xs
wrapped xs all = map-same (λ x. x % 2 ^ 64) xs (all_by (λ x p. mod-eq_of_lt p) xs all)

-- a list is read back from its bytes under BlockwiseLinear
pub values64-blockwise : BlockwiseIsReadBack
unfolding blockwise_body
values64-blockwise xs all len =
    let s = stats_of xs in
    let d = stats_of-describes xs all in
    let ks = steps_above s xs in
    let long : length ks ≡ length xs = length-map xs (λ x. (x - s.least) / s.divisor) in
    let below : AreBelow (2 ^ 64) ks = mapped_all (λ k. k < 2 ^ 64) (λ x. (x - s.least) / s.divisor) xs
    (all_by (λ x p. omega (arith, div-le_self (x - s.least) s.divisor, p)) xs all) in
    let back : map (λ k. (s.least + s.divisor * k) % 2 ^ 64) ks ≡ xs =
    sym (map-map (λ k. s.least + s.divisor * k) (λ x. x % 2 ^ 64) ks)
    ∙ ap (map (λ x. x % 2 ^ 64)) (steps_list-back xs s d) ∙ wrapped xs all in
    values64-behind_stats 2 xs (blocks_bytes (blocks_of ks)) all len
    (blockwise_values-back s ks (d.count ∙ sym long) (rw long len) below ∙ ap Some back)
