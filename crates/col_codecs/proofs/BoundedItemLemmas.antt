-- Ids by the numbers at them, block by block.
use Rattle.std.proofs.Common.{◌≡◌, ℕ, zero, suc, ◌+◌, ◌-◌, ◌/◌, ◌%◌, ◌<◌, ◌≤◌, Bool, true, false, cond, List, [], ◌∷◌, ◌++◌, length, map, filter, take, set, get_or, refl, sym, ◌∙◌, ap, subst, arith, append-nil}
use Rattle.std.specs.List.{range_with_len}
use Rattle.std.specs.Int.{is_in_range}
use Rattle.std.proofs.lemmas.List.{map-append}
use Rattle.std.proofs.lemmas.List.Elements.{filter-append}
use Rattle.std.proofs.lemmas.List.FromFn.{get_or-map-range_with_len}
use mir.Val.{bool_byte}
use Rattle.col_common.specs.Ascending.{is_rising}
use Rattle.col_common.proofs.OrderingLemmas.{filtered_rises}
use Rattle.col_bits.proofs.ItemLemmas.{range_parts}
use Rattle.col_values.proofs.HitLemmas.{rows_same, rows_none}
use Rattle.col_common.proofs.KeptLemmas.{kept_more}
use Rattle.col_codecs.specs.declared.block_bounds.Bounds.{Bounds}
use Rattle.col_codecs.specs.BlockBounds.{LiesIn, Enclose}
use Rattle.col_codecs.specs.BoundedItems.{ids_by}

-- ---- ids

-- where each number of a range is kept, all are
pub filter_all : (p : ℕ → Bool) (a n : ℕ) → ((k : ℕ) → a ≤ k → k < a + n → p k ≡ true) → filter p (range_with_len a n) ≡ range_with_len a n
filter_all p a zero always = refl
filter_all p a (suc n) always =
    rw (always a (omega arith) (omega arith))
    (ap (λ r. a ∷ r) (filter_all p (a + 1) n (λ k h l. always k (omega arith) (omega arith))))

-- no id
pub ids_by-none : (f : ℕ → ℕ) (low high a n : ℕ) → n ≡ 0 → ids_by f low high a n ≡ []
unfolding ids_by
ids_by-none f low high a n e = ap (ids_by f low high a) e

-- ids of two blocks
pub ids_by-joined : (f : ℕ → ℕ) (low high a n m b k : ℕ) → a + n ≡ b → n + m ≡ k
    → ids_by f low high a k ≡ ids_by f low high a n ++ ids_by f low high b m
unfolding ids_by
ids_by-joined f low high a n m b k at whole =
    let test : ℕ → Bool = λ id. is_in_range low high (f id) in
    ap (λ c. filter test (range_with_len a c)) (sym whole)
    ∙ (ap (filter test) (range_parts a n m)
    ∙ (filter-append test (range_with_len a n) (range_with_len (a + n) m)
    ∙ ap (λ c. filter test (range_with_len a n) ++ filter test (range_with_len c m)) at))

-- one id
ids_by-one : (f : ℕ → ℕ) (low high id : ℕ) (kept : Bool) → kept ≡ is_in_range low high (f id)
    → ids_by f low high id 1 ≡ cond kept (id ∷ []) []
unfolding ids_by
ids_by-one f low high id kept e = ap (λ b. cond b (id ∷ []) []) (sym e)

-- one id more is tested
pub ids_by-more : (f : ℕ → ℕ) (low high a n m id kept : ℕ) (out : List ℕ) (b : Bool) → a + n ≡ id → n + 1 ≡ m
    → b ≡ is_in_range low high (f id) → kept < length out → take kept out ≡ ids_by f low high a n
    → take (kept + bool_byte b) (set out kept id) ≡ ids_by f low high a m
ids_by-more f low high a n m id kept out b at next tested within so_far =
    kept_more out kept id b within
    ∙ ap (λ xs. xs ++ cond b (id ∷ []) []) so_far
    ∙ ap (λ xs. ids_by f low high a n ++ xs) (sym (ids_by-one f low high id b tested))
    ∙ sym (ids_by-joined f low high a n 1 id m at next)

-- ids by the numbers that were read
pub ids_by-read : (f : ℕ → ℕ) (vals : List ℕ) (low high a n : ℕ) → vals ≡ map f (range_with_len a n)
    → ids_by (λ id. get_or vals (id - a) 0) low high a n ≡ ids_by f low high a n
unfolding ids_by
ids_by-read f vals low high a n read =
    rows_same _ _ a n (λ k above below.
    let at : get_or vals (k - a) 0 ≡ f k = ap (λ xs. get_or xs (k - a) 0) read
    ∙ get_or-map-range_with_len f a n (k - a) k 0 (omega arith) (omega arith) in
    ap (is_in_range low high) at)

-- ids rise
pub ids_by-rise : (f : ℕ → ℕ) (low high a n : ℕ) → is_rising (ids_by f low high a n) ≡ true
unfolding ids_by
ids_by-rise f low high a n = filtered_rises (λ id. is_in_range low high (f id)) a n

-- ---- blocks

-- numbers of one block
block_lies : (bs : List Bounds) (f : ℕ → ℕ) (a n to block k : ℕ) → block ≡ a / 1024 → a + n ≤ to
    → a % 1024 + n ≤ 1024 → Enclose bs f to → a ≤ k → k < a + n → LiesIn bs block (f k)
block_lies bs f a n to block k at within one enclosed above below =
    let same : k / 1024 ≡ block = omega (arith, at, one, above, below) in
    subst (λ j. LiesIn bs j (f k)) same (enclosed k (omega (arith, below, within)))

module _ (bs : List Bounds) (f : ℕ → ℕ) (low high a n to block : ℕ) (at : block ≡ a / 1024) (within : a + n ≤ to)
    (one : a % 1024 + n ≤ 1024) (enclosed : Enclose bs f to) (old : List ℕ) where
  -- a block that lies outside the range adds none of its ids
  pub block_skipped : ((v : ℕ) → LiesIn bs block v → is_in_range low high v ≡ false) → old ≡ old ++ ids_by f low high a n
  unfolding ids_by
  block_skipped misses =
      sym (append-nil old)
      ∙ ap (λ r. old ++ r) (sym (rows_none (λ id. is_in_range low high (f id)) a n
      (λ k above below. misses (f k) (block_lies bs f a n to block k at within one enclosed above below))))

  -- one that lies inside adds all
  pub block_taken : ((v : ℕ) → LiesIn bs block v → is_in_range low high v ≡ true) → old ++ range_with_len a n ≡ old ++ ids_by f low high a n
  unfolding ids_by
  block_taken hits =
      ap (λ r. old ++ r) (sym (filter_all (λ id. is_in_range low high (f id)) a n
      (λ k above below. hits (f k) (block_lies bs f a n to block k at within one enclosed above below))))

-- the numbers of a block behind those before it
pub numbers-joined : (f : ℕ → ℕ) (n m : ℕ) → map f (range_with_len 0 n) ++ map f (range_with_len n m) ≡ map f (range_with_len 0 (n + m))
numbers-joined f n m =
    let place : n ≡ 0 + n = omega arith in
    sym (map-append f (range_with_len 0 n) (range_with_len n m))
    ∙ ap (map f) (ap (λ k. range_with_len 0 n ++ range_with_len k m) place ∙ sym (range_parts 0 n m))
