-- For a reader that goes from block to block, and one that reads their items.
use Rattle.std.proofs.Common.{◌≡◌, ℕ, zero, suc, ◌+◌, ◌-◌, ◌*◌, ◌<◌, ◌≤◌, ◌==◌, ◌&&◌, Bool, true, false, nat_le, List, [], ◌∷◌, length, take, drop, slice_index_or, refl, ap, sym, ◌∙◌, arith, add-one}
use Rattle.std.proofs.lemmas.Bool.{le-leb, lt-leb}
use Rattle.std.proofs.lemmas.List.{drop-drop, drop_more, drop_all, length-drop}
use Rattle.col_model.specs.U64List.{LinearParams, block_len}
use Rattle.col_bits.specs.Packed.{is_packed}
use Rattle.col_model.specs.Items.{block_bytes, block_start, are_blocks}

-- the first block begins at the front
pub block_start-first : (n : ℕ) (ls : List LinearParams) → block_start n ls 0 ≡ 0
unfolding block_start
block_start-first n [] = refl
block_start-first n (l ∷ ls) = refl

-- the next block begins behind a block
pub block_start-more : (n : ℕ) (ls : List LinearParams) (k : ℕ) (d : LinearParams) → k < length ls
    → block_start n ls (k + 1) ≡ block_start n ls k + block_bytes (n - 512 * k) (slice_index_or ls k d)
unfolding block_start
block_start-more n [] k d h = absurd (omega arith)
block_start-more n (l ∷ ls) zero d h = let all : n - 512 * 0 ≡ n = omega arith in rw (block_start-first (n - 512) ls, all) (omega arith)
block_start-more n (l ∷ ls) (suc k) d h =
    let fewer : n - 512 - 512 * k ≡ n - 512 * suc k = omega arith in
    let next : suc k ≡ k + 1 = omega arith in
    let later : block_start (n - 512) ls (suc k) ≡ block_start (n - 512) ls k + block_bytes (n - 512 * suc k) (slice_index_or ls k d) =
    ap (block_start (n - 512) ls) next ∙ block_start-more (n - 512) ls k d (omega arith)
    ∙ ap (λ m. block_start (n - 512) ls k + block_bytes m (slice_index_or ls k d)) fewer in
    rw (add-one, later) (omega arith)

-- A reader has read k blocks and stands at the next one.
pub record IsAtBlock (n : ℕ) (ls : List LinearParams) (bytes : List ℕ) (k start : ℕ) : Type 0 where
  pub start_is : start ≡ block_start n ls k
  pub within : start ≤ length bytes
  pub so_far : are_blocks n ls bytes ≡ are_blocks (n - 512 * k) (drop k ls) (drop start bytes)

-- a reader that has read no block stands at the front of the bytes
pub at_block-first : (n : ℕ) (ls : List LinearParams) (bytes : List ℕ) → IsAtBlock n ls bytes 0 0
at_block-first n ls bytes =
    let all : n - 512 * 0 ≡ n = omega arith in
    record { start_is = sym (block_start-first n ls); within = omega arith; so_far = rw all refl }

-- the test of a block and of those behind it
at_block-test : (n : ℕ) (ls : List LinearParams) (bytes : List ℕ) (k start : ℕ) (d : LinearParams)
    → IsAtBlock n ls bytes k start → k < length ls
    → let l = slice_index_or ls k d in let m = n - 512 * k in let rest = drop start bytes in
    are_blocks n ls bytes ≡ (nat_le (block_bytes m l) (length rest)
    && is_packed (take (block_bytes m l) rest) (block_len m * l.offset_width)
    && are_blocks (n - 512 * (k + 1)) (drop (k + 1) ls) (drop (start + block_bytes m l) bytes))
unfolding are_blocks
at_block-test n ls bytes k start d so h =
    let l = slice_index_or ls k d in
    let m = n - 512 * k in
    let fewer : n - 512 * (k + 1) ≡ m - 512 = omega arith in
    rw (so.so_far, drop_more ls k d h, fewer, ← drop-drop (block_bytes m l) start bytes) refl

-- a reader that stands at a block which the bytes hold in full stands, past its bytes, at the next
-- block
pub at_block-more : (n : ℕ) (ls : List LinearParams) (bytes : List ℕ) (k start : ℕ) (d : LinearParams)
    → IsAtBlock n ls bytes k start → k < length ls
    → let l = slice_index_or ls k d in let m = n - 512 * k in
    start + block_bytes m l ≤ length bytes
    → is_packed (take (block_bytes m l) (drop start bytes)) (block_len m * l.offset_width) ≡ true
    → IsAtBlock n ls bytes (k + 1) (start + block_bytes m l)
at_block-more n ls bytes k start d so h fits e =
    let l = slice_index_or ls k d in
    let m = n - 512 * k in
    let there : nat_le (block_bytes m l) (length (drop start bytes)) ≡ true =
    le-leb (block_bytes m l) (length (drop start bytes)) (rw (length-drop start bytes) (omega arith)) in
    record {
      start_is = rw (block_start-more n ls k d h, ← so.start_is) refl;
      within = fits;
      so_far = rw (at_block-test n ls bytes k start d so h, there, e) refl;
    }

-- a block that isn't there whole
pub at_block-short : (n : ℕ) (ls : List LinearParams) (bytes : List ℕ) (k start : ℕ) (d : LinearParams)
    → IsAtBlock n ls bytes k start → k < length ls
    → length bytes < start + block_bytes (n - 512 * k) (slice_index_or ls k d) → are_blocks n ls bytes ≡ false
at_block-short n ls bytes k start d so h short =
    let l = slice_index_or ls k d in
    let m = n - 512 * k in
    let missing : nat_le (block_bytes m l) (length (drop start bytes)) ≡ false =
    lt-leb (block_bytes m l) (length (drop start bytes))
    (rw (length-drop start bytes) (omega (arith, so.within))) in
    rw (at_block-test n ls bytes k start d so h, missing) refl

refused : (a c : Bool) → (a && false && c) ≡ false
refused true c = refl
refused false c = refl

-- a block with spare bits that aren't 0
pub at_block-spare : (n : ℕ) (ls : List LinearParams) (bytes : List ℕ) (k start : ℕ) (d : LinearParams)
    → IsAtBlock n ls bytes k start → k < length ls
    → let l = slice_index_or ls k d in let m = n - 512 * k in
    is_packed (take (block_bytes m l) (drop start bytes)) (block_len m * l.offset_width) ≡ false → are_blocks n ls bytes ≡ false
at_block-spare n ls bytes k start d so h e = rw (at_block-test n ls bytes k start d so h, e) (refused _ _)

-- behind the last block nothing stands
pub at_block-end : (n : ℕ) (ls : List LinearParams) (bytes : List ℕ) (k start : ℕ) → IsAtBlock n ls bytes k start
    → length ls ≤ k → are_blocks n ls bytes ≡ (length bytes - start == 0)
unfolding are_blocks
at_block-end n ls bytes k start so h = rw (so.so_far, drop_all k ls h, length-drop start bytes) refl

-- ---- for a reader of the items
