-- Blocks that are placed one behind another.
use Rattle.std.proofs.Common.{◌≡◌, ℕ, ◌+◌, ◌-◌, ◌*◌, ◌<◌, ◌≤◌, ◌==◌, inl, inr, Bool, true, false, List, length, map, take, drop, get_or, set, min, sym, ◌∙◌, ap, arith}
use Rattle.std.specs.Int.{div_ceil}
use Rattle.std.proofs.Math.Seq.{map-set_same}
use Rattle.std.proofs.lemmas.Bool.{cases_eq, eq-eqb, ne_eqb}
use Rattle.std.proofs.lemmas.List.{get_or-map, length-map, get_or-set_same, get_or-set_other}
use Rattle.col_model.specs.U64List.{LinearParams, block_len}
use Rattle.col_bits.specs.Packed.{is_packed}
use Rattle.col_model.specs.Items.{block_bytes, block_start, are_blocks, no_line}
use Rattle.col_model.proofs.BlockReadingLaws.{IsAtBlock, at_block-more, at_block-short, at_block-spare, at_block-end}
use Rattle.col_codecs.specs.declared.blockwise_linear.block.Block.{Block}
use Rattle.col_codecs.specs.Blocks.{block_params, block_of, no_block}

-- the first k blocks are placed
pub record PlacedSoFar (n : ℕ) (slopes : List LinearParams) (bs : List Block) (bytes : List ℕ) (k : ℕ) : Type 0 where
  pub starts : (i : ℕ) → i < k → (block_of bs i).start ≡ block_start n slopes i
  pub within : (i : ℕ) → i < k → (block_of bs i).start ≤ length bytes

-- before the first block none is placed
pub PlacedSoFar-none : (n : ℕ) (slopes : List LinearParams) (bs : List Block) (bytes : List ℕ) → PlacedSoFar n slopes bs bytes 0
PlacedSoFar-none n slopes bs bytes = record { starts = λ i h. absurd (omega arith); within = λ i h. absurd (omega arith) }

-- one block more
pub PlacedSoFar-push : (n : ℕ) (slopes : List LinearParams) (bs : List Block) (bytes : List ℕ) (k : ℕ) (b : Block)
    → PlacedSoFar n slopes bs bytes k → k < length bs → b.start ≡ block_start n slopes k → b.start ≤ length bytes
    → PlacedSoFar n slopes (set bs k b) bytes (k + 1)
PlacedSoFar-push n slopes bs bytes k b h room e w = record {
  starts = λ i p. elim (cases_eq i k) [
    | inl same ↦ rw (same, get_or-set_same bs k b no_block room) e
    | inr other ↦ rw (get_or-set_other bs k i b no_block other) (h.starts i (omega arith))
  ];
  within = λ i p. elim (cases_eq i k) [
    | inl same ↦ rw (same, get_or-set_same bs k b no_block room) w
    | inr other ↦ rw (get_or-set_other bs k i b no_block other) (h.within i (omega arith))
  ];
}

-- the last block ends with the bytes
pub placing-end : (n : ℕ) (slopes : List LinearParams) (bytes : List ℕ) (k start : ℕ)
    → IsAtBlock n slopes bytes k start → length slopes ≤ k → (start == length bytes) ≡ are_blocks n slopes bytes
placing-end n slopes bytes k start at all = ends start (length bytes) at.within ∙ sym (at_block-end n slopes bytes k start at all)
  where
    ends : (a b : ℕ) → a ≤ b → (a == b) ≡ (b - a == 0)
    ends a b h = elim (cases_eq a b) [
      | inl e ↦ eq-eqb a b e ∙ sym (eq-eqb (b - a) 0 (omega arith))
      | inr p ↦ ne_eqb a b p ∙ sym (ne_eqb (b - a) 0 (omega arith))
    ]

-- A block at its turn: its line is the next, and it has so many bytes.
module _ (n : ℕ) (slopes : List LinearParams) (bs : List Block) (bytes : List ℕ) (k start left len w num_bytes : ℕ)
    (b : Block) (at : IsAtBlock n slopes bytes k start) (same : map block_params bs ≡ slopes) (room : k < length bs)
    (is : b ≡ get_or bs k b) (behind : left ≡ n - 512 * k) (short : len ≡ min left 512) (wide : w ≡ b.bit_unpacker)
    (total : num_bytes ≡ div_ceil (len * w) 8) where
  there : k < length slopes
  there = omega (arith, ap length same, length-map bs block_params)

  line-is : get_or slopes k no_line ≡ block_params b
  line-is = ap (λ ls. get_or ls k no_line) (sym same) ∙ get_or-map block_params bs k b no_line room ∙ ap block_params (sym is)

  len-is : len ≡ block_len (n - 512 * k)
  len-is = omega (arith, short, behind)

  bytes-are : num_bytes ≡ block_bytes (n - 512 * k) (get_or slopes k no_line)
  bytes-are =
      total ∙ ap (λ m. div_ceil (m * w) 8) len-is
      ∙ ap (λ v. div_ceil (block_len (n - 512 * k) * v) 8) wide
      ∙ ap (λ (l : LinearParams). div_ceil (block_len (n - 512 * k) * l.offset_width) 8) (sym line-is)

  bits-are : len * w ≡ block_len (n - 512 * k) * (get_or slopes k no_line).offset_width
  bits-are =
      ap (λ m. m * w) len-is ∙ ap (λ v. block_len (n - 512 * k) * v) wide
      ∙ ap (λ (l : LinearParams). block_len (n - 512 * k) * l.offset_width) (sym line-is)

  -- it isn't there whole
  pub placing-short : length bytes - start < num_bytes → false ≡ are_blocks n slopes bytes
  placing-short h = sym (at_block-short n slopes bytes k start no_line at there (omega (arith, h, bytes-are)))

  tested : (test : Bool) → test ≡ is_packed (take (start + num_bytes - start) (drop start bytes)) (len * w)
      → is_packed (take (block_bytes (n - 512 * k) (get_or slopes k no_line)) (drop start bytes))
      (block_len (n - 512 * k) * (get_or slopes k no_line).offset_width) ≡ test
  tested test e =
      sym (e ∙ ap (λ m. is_packed (take m (drop start bytes)) (len * w)) (omega (arith, bytes-are))
      ∙ ap (is_packed (take (block_bytes (n - 512 * k) (get_or slopes k no_line)) (drop start bytes))) bits-are)

  -- its spare bits aren't 0
  pub placing-spare : (test : Bool)
      → test ≡ is_packed (take (start + num_bytes - start) (drop start bytes)) (len * w) → test ≡ false
      → false ≡ are_blocks n slopes bytes
  placing-spare test e t = sym (at_block-spare n slopes bytes k start no_line at there (tested test e ∙ t))

  -- it is there
  pub placing-next : (test : Bool) → start + num_bytes ≤ length bytes
      → test ≡ is_packed (take (start + num_bytes - start) (drop start bytes)) (len * w) → test ≡ true
      → IsAtBlock n slopes bytes (k + 1) (start + num_bytes)
  placing-next test h e t = rw bytes-are (at_block-more n slopes bytes k start no_line at there (rw (← bytes-are) h) (tested test e ∙ t))

  -- its line stays
  pub placing-slopes : let placed : Block = record { line = b.line; bit_unpacker = b.bit_unpacker; start = start }
      in map block_params (set bs k placed) ≡ slopes
  placing-slopes =
      let placed : Block = record { line = b.line; bit_unpacker = b.bit_unpacker; start = start } in
      map-set_same block_params bs k placed b (ap block_params is) ∙ same

  -- the block at a place, begun where it is to begin, is one block more that is placed
  pub placing-placed : PlacedSoFar n slopes bs bytes k
      → let placed : Block = record { line = b.line; bit_unpacker = b.bit_unpacker; start = start } in PlacedSoFar n
      slopes (set bs k placed) bytes (k + 1)
  placing-placed h =
      let placed : Block = record { line = b.line; bit_unpacker = b.bit_unpacker; start = start } in
      PlacedSoFar-push n slopes bs bytes k placed h room at.start_is at.within
