-- A range of items, read block by block.
use Rattle.std.proofs.Common.{◌≡◌, ℕ, ◌+◌, ◌-◌, ◌*◌, ◌/◌, ◌%◌, ◌^◌, ◌≤◌, List, ◌++◌, map, length, take, drop, sym, ◌∙◌, ap, arith, length-drop}
use Rattle.std.specs.List.{range_with_len}
use Rattle.std.proofs.lemmas.List.{length-take-le, take_all}
use Rattle.std.proofs.lemmas.List.FromFn.{length-map-range_with_len, get_or-map-range_with_len}
use Rattle.std.proofs.lemmas.Slice.{take-put_mid}
use borrow.Rule.Slice.PartMut.{put_mid, same_len_mid}
use Rattle.col_model.specs.Stats.{Stats}
use Rattle.col_model.specs.Line.{line, signed_32}
use Rattle.col_codecs.specs.declared.blockwise_linear.block.Block.{Block}
use Rattle.col_codecs.specs.Line.{raised}
use Rattle.col_codecs.specs.Blocks.{block_of, step_in, step_of, item_of, items_in}
use Rattle.col_codecs.proofs.LinearReaderLemmas.{filled_from}
use Rattle.col_codecs.proofs.ListLemmas.{range-part}
use Rattle.col_codecs.proofs.BlockStepsLemmas.{range-split}
use Rattle.col_codecs.proofs.BlockReaderLemmas.{items_in-is}

-- item i of the blocks
abbrev pub own_item : Stats → List Block → List ℕ → ℕ → ℕ
own_item s bs bytes i = item_of s (step_of bs bytes i)

-- a part of a block's items stands at an index of the list
items-of-part : (s : Stats) (bs : List Block) (bytes : List ℕ) (b : Block) (idx m : ℕ) → idx % 512 + m ≤ 512
    → b ≡ block_of bs (idx / 512)
    → map (λ i. item_of s (step_in b bytes i)) (range_with_len (idx % 512) m)
    ≡ map (own_item s bs bytes) (range_with_len idx m)
items-of-part s bs bytes b idx m h is =
    let place = idx % 512 in
    let read : ℕ → ℕ = λ i. item_of s (step_in b bytes i) in
    filled_from (own_item s bs bytes) idx m (map read (range_with_len place m)) (length-map-range_with_len read place m)
    (λ k w.
    let block : (idx + k) / 512 ≡ idx / 512 = omega (arith, w, h) in
    let at : (idx + k) % 512 ≡ place + k = omega (arith, w, h) in
    get_or-map-range_with_len read place m k (place + k) 0 w (omega arith)
    ∙ ap (λ (c : Block). item_of s (step_in c bytes (place + k))) (is ∙ ap (block_of bs) (sym block))
    ∙ ap (λ i. item_of s (step_in (block_of bs ((idx + k) / 512)) bytes i)) (sym at))

-- a list keeps its length where a part of it is written
pub room-kept : (filled m : ℕ) (output part : List ℕ) → filled + m ≤ length output → length part ≡ m
    → length (put_mid filled (filled + m - filled) output part) ≡ length output
room-kept filled m output part h long =
    let count : filled + m - filled ≡ m = omega arith in
    same_len_mid filled (filled + m - filled) output part
    (long ∙ sym (length-take-le (filled + m - filled) (drop filled output) (omega (arith, length-drop filled output)) ∙ count))

-- the items so far, where those of a block follow
pub range-more :
    (s : Stats) (bs : List Block) (bytes : List ℕ) (b : Block) (start filled m lent : ℕ) (output part : List ℕ)
    → filled + m ≤ length output → (start + filled) % 512 + m ≤ 512 → b ≡ block_of bs ((start + filled) / 512)
    → length part ≡ m → length part ≡ lent
    → part ≡ map (λ i. item_of s (step_in b bytes i)) (range_with_len ((start + filled) % 512) lent)
    → take filled output ≡ map (own_item s bs bytes) (range_with_len start filled)
    → take (filled + m) (put_mid filled (filled + m - filled) output part)
    ≡ map (own_item s bs bytes) (range_with_len start (filled + m))
range-more s bs bytes b start filled m lent output part room h is long all read before =
    take-put_mid filled (filled + m - filled) output part (filled + m) (ap (λ n. filled + n) (sym long)) (omega (arith, room))
    ∙ ap (λ xs. xs ++ part) before
    ∙ ap (λ xs. map (own_item s bs bytes) (range_with_len start filled) ++ xs) (read
    ∙ ap (λ n. map (λ i. item_of s (step_in b bytes i)) (range_with_len ((start + filled) % 512) n))
    (sym all ∙ long) ∙ items-of-part s bs bytes b (start + filled) m h is)
    ∙ sym (range-split (own_item s bs bytes) start filled m)

-- all of the range
pub range-read : (s : Stats) (bs : List Block) (bytes : List ℕ) (start filled n : ℕ) (output : List ℕ)
    → length output ≡ n → filled ≡ n → take filled output ≡ map (own_item s bs bytes) (range_with_len start filled)
    → output ≡ map (own_item s bs bytes) (range_with_len start n)
range-read s bs bytes start filled n output long all held =
    sym (take_all filled output (omega (arith, long, all))) ∙ held ∙ ap (λ m. map (own_item s bs bytes) (range_with_len start m)) all

-- a part of the items
pub items_in-part : (s : Stats) (bs : List Block) (bytes : List ℕ) (start m : ℕ) → start + m ≤ s.count
    → map (own_item s bs bytes) (range_with_len start m) ≡ take m (drop start (items_in s bs bytes))
items_in-part s bs bytes start m h =
    range-part (own_item s bs bytes) s.count start m h
    ∙ ap (λ xs. take m (drop start xs)) (sym (items_in-is s bs bytes))

-- an item that lies one divisor of 1 a step above the least is one above a line that is raised by it
pub raised-first : (least divisor slope intercept slope' intercept' i offset : ℕ) → slope' ≡ slope
    → intercept' ≡ (intercept + least) % 2 ^ 64 → divisor ≡ 1
    → raised slope' intercept' (i, offset) ≡ (least + divisor * raised slope intercept (i, offset)) % 2 ^ 64
unfolding line
raised-first least divisor slope intercept slope' intercept' i offset same high one =
    let h = signed_32 (i * slope % 2 ^ 64 / 2 ^ 32) in
    let step = raised slope intercept (i, offset) in
    let once : divisor * step ≡ 1 * step = ap (λ d. d * step) one in
    ap (λ s. raised s intercept' (i, offset)) same
    ∙ ap (λ t. raised slope t (i, offset)) high
    ∙ omega (arith, once)
