-- Items of lists in blocks, by arithmetic.
use Rattle.std.proofs.Common.{◌≡◌, ℕ, zero, suc, ◌+◌, ◌-◌, ◌*◌, ◌/◌, ◌%◌, ◌^◌, ◌<◌, ◌≤◌, ◌==◌, inl, inr, Bool, true, false, ◌&&◌, List, [], ◌∷◌, map, length, take, drop, slice_index, Option, Some, None, refl, ap, sym, ◌∙◌, arith, length-append}
use Rattle.std.specs.Int.{w64, div_ceil}
use Rattle.std.specs.List.{range_with_len, enumerate_from}
use Rattle.std.proofs.lemmas.Bool.{cases_lt, le-leb, lt-leb}
use Rattle.std.proofs.lemmas.Option.{option_and_then_some, cond_some, same_Some}
use Rattle.std.proofs.lemmas.List.{get_or_append_left, get_or-append_right, drop-drop}
use Rattle.std.proofs.lemmas.List.FromFn.{fill_by_all}
use Rattle.col_common.specs.Reading.{only_if, ◌>>=◌, nothing_left, items, parts_by_second}
use Rattle.col_bits.specs.Packed.{item, is_packed}
use Rattle.col_model.specs.Stats.{Stats}
use Rattle.col_model.specs.U64List.{LinearParams, params_at, above_line, block_len, blocks, joined_lists, blockwise_values}
use Rattle.col_model.specs.Items.{linear_item, linear_items, block_bytes, block_start, are_blocks, block_item, blockwise_items}
use Rattle.col_model.proofs.StatsLaws.{map-map}
use Rattle.col_model.proofs.ItemLaws.{only_if-then, packed-front, above_line-items, length-linear_items, linear_items-at}

-- the items of n items in blocks, block by block
unfoldable pub block_lists : ℕ → List LinearParams → List ℕ → List (List ℕ)
block_lists n [] bytes = []
block_lists n (l ∷ ls) bytes = linear_items l bytes (block_len n) ∷ block_lists (n - 512) ls (drop (block_bytes n l) bytes)

-- the bits fit the bytes
ceil_fits : (m : ℕ) → m ≤ 8 * div_ceil m 8
ceil_fits m = omega arith

-- a block in front of others
abbrev with_front : List ℕ → List (List ℕ) × List ℕ → Option (List (List ℕ) × List ℕ)
with_front xs rest = Some (xs ∷ rest.0, rest.1)

front-behind : (xs : List ℕ) (o : Option (List (List ℕ) × List ℕ))
    → (o >>= with_front xs >>= nothing_left) ≡ ((o >>= nothing_left) >>= λ xss. Some (xs ∷ xss))
front-behind xs None = refl
front-behind xs (Some rest) = sym (only_if-then (λ xss. xs ∷ xss) (length rest.1 == 0) rest.0)

-- a packed block, and what is behind it
behind-test :
    (b c : Bool) (os : List ℕ) (above : List ℕ → List ℕ) (o : Option (List (List ℕ) × List ℕ)) (xss : List (List ℕ))
    → (o >>= nothing_left) ≡ only_if c xss
    → ((only_if b os >>= λ offsets. o >>= with_front (above offsets)) >>= nothing_left)
    ≡ only_if (b && c) (above os ∷ xss)
behind-test true c os above o xss e =
    front-behind (above os) o ∙ ap (λ r. r >>= λ yss. Some (above os ∷ yss)) e
    ∙ only_if-then (λ yss. above os ∷ yss) c xss
behind-test false c os above o xss e = refl

-- the blocks, where they are packed and nothing else
pub blocks-lists : (n : ℕ) (ls : List LinearParams) (bytes : List ℕ)
    → (blocks n ls bytes >>= nothing_left) ≡ only_if (are_blocks n ls bytes) (block_lists n ls bytes)
unfolding blocks are_blocks block_lists
blocks-lists n [] bytes = refl
blocks-lists n (l ∷ ls) bytes =
    let len = block_bytes n l in
    elim (cases_lt (length bytes) len) [
      | inl p ↦ rw (lt-leb len (length bytes) p) refl
      | inr p ↦ rw (
        le-leb len (length bytes) p,
        packed-front bytes l.offset_width (block_len n) len
            (ceil_fits (block_len n * l.offset_width)) p,
      )
          (behind-test (is_packed (take len bytes) (block_len n * l.offset_width))
          (are_blocks (n - 512) ls (drop len bytes)) (map (item bytes l.offset_width)
          (range_with_len 0 (block_len n))) (λ os. map (above_line l) (enumerate_from 0 os)) (blocks (n - 512) ls
          (drop len bytes)) (block_lists (n - 512) ls (drop len bytes)) (blocks-lists (n - 512) ls
          (drop len bytes))
          ∙ ap (λ xs. only_if (is_packed (take len bytes) (block_len n * l.offset_width) && are_blocks (n - 512) ls
          (drop len bytes)) (xs ∷ block_lists (n - 512) ls (drop len bytes))) (above_line-items l bytes (block_len
          n)))
    ]

-- ---- the items one after another

pub length-joined-block_lists : (n : ℕ) (ls : List LinearParams) (bytes : List ℕ) → n ≤ 512 * length ls
    → length (joined_lists (block_lists n ls bytes)) ≡ n
unfolding block_lists
length-joined-block_lists n [] bytes h = omega arith
length-joined-block_lists n (l ∷ ls) bytes h =
    rw (
      length-append (linear_items l bytes (block_len n))
          (joined_lists (block_lists (n - 512) ls (drop (block_bytes n l) bytes))),
      length-linear_items l bytes (block_len n),
      length-joined-block_lists (n - 512) ls (drop (block_bytes n l) bytes) (omega arith),
    ) (omega arith)

-- an item of the first block
first-block : (n : ℕ) (l : LinearParams) (ls : List LinearParams) (bytes : List ℕ) (i : ℕ) → i < 512
    → linear_item l bytes i ≡ block_item n (l ∷ ls) bytes i
unfolding block_start
first-block n l ls bytes i h =
    let k : i / 512 ≡ 0 = omega arith in
    let j : i % 512 ≡ i = omega arith in
    rw (k, j) refl

-- an item of a later block is that of the blocks behind the first
later-block : (n : ℕ) (l : LinearParams) (ls : List LinearParams) (bytes : List ℕ) (i : ℕ) → 512 ≤ i
    → block_item (n - 512) ls (drop (block_bytes n l) bytes) (i - 512) ≡ block_item n (l ∷ ls) bytes i
unfolding block_start
later-block n l ls bytes i h =
    let k : i / 512 ≡ suc ((i - 512) / 512) = omega arith in
    let j : i % 512 ≡ (i - 512) % 512 = omega arith in
    rw (k, j, drop-drop (block_start (n - 512) ls ((i - 512) / 512)) (block_bytes n l) bytes) refl

-- the item at a place
pub block_lists-at : (n : ℕ) (ls : List LinearParams) (bytes : List ℕ) (i : ℕ) → n ≤ 512 * length ls → i < n
    → slice_index (joined_lists (block_lists n ls bytes)) i ≡ block_item n ls bytes i
unfolding block_lists
block_lists-at n [] bytes i h p = absurd (omega arith)
block_lists-at n (l ∷ ls) bytes i h p =
    let first = linear_items l bytes (block_len n) in
    let behind = drop (block_bytes n l) bytes in
    let later = joined_lists (block_lists (n - 512) ls behind) in
    elim (cases_lt i 512) [
      | inl q ↦ (
          let short : i < length first = rw (length-linear_items l bytes (block_len n)) (omega arith) in
          get_or_append_left first later 0 i short ∙ linear_items-at l bytes (block_len n) i (omega arith) ∙ first-block n l ls bytes i q)
      | inr q ↦ (
          let long : length first ≡ 512 = length-linear_items l bytes (block_len n) ∙ omega arith in
          get_or-append_right first later 512 i 0 long q ∙ block_lists-at (n - 512) ls behind (i - 512) (omega arith)
          (omega arith) ∙ later-block n l ls bytes i q)
    ]

pub joined-block_lists : (n : ℕ) (ls : List LinearParams) (bytes : List ℕ) → n ≤ 512 * length ls
    → joined_lists (block_lists n ls bytes) ≡ map (block_item n ls bytes) (range_with_len 0 n)
joined-block_lists n ls bytes h =
    fill_by_all (block_item n ls bytes) (joined_lists (block_lists n ls bytes)) n 0
    (length-joined-block_lists n ls bytes h) (λ i p. block_lists-at n ls bytes i h p)

-- ---- the list

-- so many items are read
pub length-items :
    {A : Type 0} (read : List ℕ → Option (A × List ℕ)) (n : ℕ) (bytes : List ℕ) (xs : List A) (rest : List ℕ)
    → items read n bytes ≡ Some (xs, rest) → length xs ≡ n
unfolding items
length-items read zero bytes xs rest e = ap (λ q. length q.0) (sym (same_Some _ _ e))
length-items {A} read (suc n) bytes xs rest e =
    option_and_then_some (λ p. items read n p.1 >>= λ q. Some (p.0 ∷ q.0, q.1)) (read bytes) (xs, rest) e (λ p _ e1.
    option_and_then_some (λ (q : List A × List ℕ). Some (p.0 ∷ q.0, q.1)) (items read n p.1) (xs, rest) e1 (λ q e2 e3.
    ap (λ r. length r.0) (sym (same_Some _ _ e3)) ∙ ap suc (length-items read n p.1 q.0 q.1 e2)))

length-lines : (n : ℕ) (footer : List ℕ) (ls : List LinearParams) → (items params_at n footer >>= nothing_left) ≡ Some ls → length ls ≡ n
length-lines n footer ls e =
    option_and_then_some nothing_left (items params_at n footer) ls e (λ r e1 e2.
    ap length (sym (cond_some (length r.1 == 0) r.0 ls e2).1) ∙ length-items params_at n footer r.0 r.1 e1)

-- steps above the least
scaled : (s : Stats) (ls : List LinearParams) (body : List ℕ) → s.count ≤ 512 * length ls
    → map (λ k. (s.least + s.divisor * k) % 2 ^ 64) (joined_lists (block_lists s.count ls body))
    ≡ blockwise_items s ls body
scaled s ls body h =
    ap (map (λ k. (s.least + s.divisor * k) % 2 ^ 64)) (joined-block_lists s.count ls body h)
    ∙ map-map (block_item s.count ls body) (λ k. (s.least + s.divisor * k) % 2 ^ 64) (range_with_len 0 s.count)

-- a list in blocks, where its lines are read
pub blockwise_values-some : (s : Stats) (bytes body footer : List ℕ) (ls : List LinearParams)
    → parts_by_second w64 bytes ≡ Some (body, footer)
    → (items params_at (div_ceil s.count 512) footer >>= nothing_left) ≡ Some ls
    → blockwise_values s bytes ≡ only_if (are_blocks s.count ls body) (blockwise_items s ls body)
unfolding blockwise_values
blockwise_values-some s bytes body footer ls p q =
    let enough : s.count ≤ 512 * length ls = omega (arith, length-lines (div_ceil s.count 512) footer ls q) in
    rw (p, q, blocks-lists s.count ls body) (only_if-then
    (λ xss. map (λ k. (s.least + s.divisor * k) % 2 ^ 64) (joined_lists xss)) (are_blocks s.count ls body)
    (block_lists s.count ls body) ∙ ap (only_if (are_blocks s.count ls body)) (scaled s ls body enough))

-- where a part is missing there is no list
pub blockwise_values-no_parts : (s : Stats) (bytes : List ℕ) → parts_by_second w64 bytes ≡ None → blockwise_values s bytes ≡ None
unfolding blockwise_values
blockwise_values-no_parts s bytes p = rw p refl

-- bytes whose footer doesn't hold a line for each block, and nothing more, stand for no list
pub blockwise_values-no_lines : (s : Stats) (bytes body footer : List ℕ)
    → parts_by_second w64 bytes ≡ Some (body, footer)
    → (items params_at (div_ceil s.count 512) footer >>= nothing_left) ≡ None → blockwise_values s bytes ≡ None
unfolding blockwise_values
blockwise_values-no_lines s bytes body footer p q = rw (p, q) refl
