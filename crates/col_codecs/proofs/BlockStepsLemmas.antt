-- Numbers of a range, and blocks by place.
use Rattle.std.proofs.Common.{◌≡◌, ℕ, ◌+◌, ◌<◌, List, ◌++◌, length, map, drop, get_or, sym, ◌∙◌, ap, arith}
use Rattle.std.specs.List.{range_with_len}
use Rattle.std.proofs.lemmas.List.{length-drop, get_or_default, take-append-drop, get_or-drop}
use Rattle.std.proofs.lemmas.List.FromFn.{length-map-range_with_len, get_or-map-range_with_len, take-map-range_with_len}
use Rattle.col_codecs.specs.declared.blockwise_linear.block.Block.{Block}
use Rattle.col_codecs.specs.Blocks.{block_of, no_block}
use Rattle.col_codecs.proofs.LinearReaderLemmas.{filled_from}

-- numbers from a on, in two parts
pub range-split : (f : ℕ → ℕ) (a n m : ℕ)
    → map f (range_with_len a (n + m)) ≡ map f (range_with_len a n) ++ map f (range_with_len (a + n) m)
range-split f a n m =
    let whole = map f (range_with_len a (n + m)) in
    let long : length (drop n whole) ≡ m = omega (arith, length-drop n whole, length-map-range_with_len f a (n + m)) in
    sym (take-append-drop n whole)
    ∙ ap (λ r. r ++ drop n whole) (take-map-range_with_len f a (n + m) n (omega arith))
    ∙ ap (λ r. map f (range_with_len a n) ++ r) (filled_from f (a + n) m (drop n whole) long (λ k h.
    get_or-drop n whole k 0
    ∙ get_or-map-range_with_len f a (n + m) (n + k) (a + n + k) 0 (omega arith) (omega arith)))

-- the block by whatever default
pub block-found : (bs : List Block) (k : ℕ) (b : Block) → k < length bs → b ≡ get_or bs k b → b ≡ block_of bs k
block-found bs k b h e = e ∙ get_or_default bs k b no_block h
