-- Bounds of blocks, and lookups by them.
use Rattle.std.proofs.Common.{◌≡◌, ℕ, zero, suc, ◌^◌, ◌+◌, ◌-◌, ◌*◌, ◌/◌, ◌<◌, ◌≤◌, inl, inr, List, [], ◌∷◌, ◌++◌, length, map, fold, min, max, take, set, get_or, refl, sym, ◌∙◌, ap, subst, arith, append_assoc, append-nil}
use Rattle.std.specs.List.{range_with_len}
use Rattle.std.proofs.lemmas.Bool.{cases_lt}
use Rattle.std.proofs.lemmas.List.{take_more, take_more_set, take_all, get_or_append_left}
use Rattle.std.proofs.lemmas.List.Sums.{fold_more}
use Rattle.std.proofs.lemmas.List.Elements.{All-get_or, All-from_recursion}
use Rattle.std.proofs.lemmas.List.FromFn.{get_or-map-range_with_len, length-map-range_with_len}
use Rattle.col_common.specs.Ascending.{AreBelow}
use Rattle.col_model.specs.Stats.{least_of, greatest_of}
use Rattle.col_model.proofs.StatsLaws.{least_of-all, fold-max}
use Rattle.col_model.proofs.ListLaws.{range-more}
use Rattle.col_codecs.specs.declared.block_bounds.Bounds.{Bounds}
use Rattle.col_codecs.specs.ColumnStats.{Collected, collected_of}
use Rattle.col_codecs.proofs.StatsLemmas.{collected-widened}
use Rattle.col_codecs.specs.BlockBounds.{AreBounds, LiesWithin, Enclose, no_bounds}

-- ---- bounds one number after another

min_from : (a b : ℕ) (xs : List ℕ) → fold min (min a b) xs ≡ min a (fold min b xs)
min_from a b [] = refl
min_from a b (x ∷ xs) =
    let e : min (min a b) x ≡ min a (min b x) = omega arith in
    ap (λ m. fold min m xs) e ∙ min_from a (min b x) xs

max_from : (a b : ℕ) (xs : List ℕ) → fold max (max a b) xs ≡ max a (fold max b xs)
max_from a b [] = refl
max_from a b (x ∷ xs) =
    let e : max (max a b) x ≡ max a (max b x) = omega arith in
    ap (λ m. fold max m xs) e ∙ max_from a (max b x) xs

-- the bounds of the first number and of those so far
pub record AreSoFar (xs : List ℕ) (n low high : ℕ) : Type 0 where
  pub least : low ≡ fold min (get_or xs 0 0) (take n xs)
  pub greatest : high ≡ fold max (get_or xs 0 0) (take n xs)

-- they are widened by one number more
pub so_far-more : (xs : List ℕ) (n least greatest low high : ℕ) → n < length xs → AreSoFar xs n least greatest
    → low ≡ min least (get_or xs n 0) → high ≡ max greatest (get_or xs n 0) → AreSoFar xs (n + 1) low high
so_far-more xs n least greatest low high within so l h =
    let first = get_or xs 0 0 in
    record {
      least = l ∙ ap (λ m. min m (get_or xs n 0)) so.least ∙ sym (fold_more min first xs n 0 within);
      greatest = h ∙ ap (λ m. max m (get_or xs n 0)) so.greatest ∙ sym (fold_more max first xs n 0 within);
    }

-- with another number in front
pub least-with : (a : ℕ) (xs : List ℕ) → 0 < length xs → min a (least_of xs) ≡ fold min a xs
least-with a [] h = absurd (omega arith)
least-with a (x ∷ xs) h = sym (min_from a x xs)

pub greatest-with : (a : ℕ) (xs : List ℕ) → max a (greatest_of xs) ≡ fold max a xs
greatest-with a xs = let e : max a 0 ≡ a = omega arith in sym (max_from a 0 xs) ∙ ap (λ m. fold max m xs) e

-- the bounds of the first number and of all
pub bounds_whole : (b : Bounds) (xs : List ℕ) (n : ℕ) → 0 < length xs → length xs ≤ n
    → b.least ≡ fold min (get_or xs 0 0) (take n xs) → b.greatest ≡ fold max (get_or xs 0 0) (take n xs)
    → AreBounds b xs
bounds_whole b [] n some all low high = absurd (omega arith)
bounds_whole b (x ∷ xs) n some all low high =
    let whole : take n (x ∷ xs) ≡ x ∷ xs = take_all n (x ∷ xs) all in
    let least : min x x ≡ x = omega arith in
    let greatest : max x x ≡ max 0 x = omega arith in
    record {
      some = some;
      least = low ∙ ap (fold min x) whole ∙ ap (λ m. fold min m xs) least;
      greatest = high ∙ ap (fold max x) whole ∙ ap (λ m. fold max m xs) greatest;
    }

-- no number lies outside its bounds
pub bounds_enclose : (b : Bounds) (xs : List ℕ) (k : ℕ) → AreBounds b xs → k < length xs → LiesWithin b (get_or xs k 0)
bounds_enclose b xs k are h =
    let low : least_of xs ≤ get_or xs k 0 = All-get_or (λ x. least_of xs ≤ x) xs k 0 h
    (All-from_recursion (λ x. least_of xs ≤ x) xs (least_of-all xs)) in
    let high : get_or xs k 0 ≤ greatest_of xs = All-get_or (λ x. x ≤ greatest_of xs) xs k 0 h
    (All-from_recursion (λ x. x ≤ greatest_of xs) xs (fold-max 0 xs).1) in
    (omega (arith, low, are.least), omega (arith, high, are.greatest))

-- numbers of 32 bits, as they are read
pub all_small : (f : ℕ → ℕ) (from n : ℕ) → ((i : ℕ) → f i < 2 ^ 32) → AreBelow (2 ^ 32) (map f (range_with_len from n))
all_small f from zero small = tt
all_small f from (suc n) small = (small from, all_small f (from + 1) n small)

-- one upper half more
pub above-more : (xs : List ℕ) (n most next : ℕ) → ((k : ℕ) → k < n → get_or xs k 0 / 2 ^ 32 ≤ most) → most ≤ next
    → get_or xs n 0 / 2 ^ 32 ≤ next → (k : ℕ) → k < n + 1 → get_or xs k 0 / 2 ^ 32 ≤ next
above-more xs n most next before more here k h =
    elim (cases_lt k n) [
      | inl less ↦ omega (arith, before k less, more)
      | inr not ↦ let same : k ≡ n = omega (arith, not, h) in subst (λ i. get_or xs i 0 / 2 ^ 32 ≤ next) (sym same) here
    ]

-- numbers that are small each
pub each_small : (xs : List ℕ) → ((k : ℕ) → k < length xs → get_or xs k 0 < 2 ^ 32) → AreBelow (2 ^ 32) xs
each_small [] each = tt
each_small (x ∷ xs) each = (each 0 (omega arith), each_small xs (λ k h. each (suc k) (omega (arith, h))))

-- ---- blocks

-- one block more
pub enclose_more : (bs : List Bounds) (b : Bounds) (f : ℕ → ℕ) (from n : ℕ) → from ≡ 1024 * length bs → n ≤ 1024
    → Enclose bs f from → AreBounds b (map f (range_with_len from n)) → Enclose (bs ++ b ∷ []) f (from + n)
enclose_more bs b f from n at short so_far are i h inside =
    elim (cases_lt i from) [
      | inl before ↦
          let block : i / 1024 < length bs = omega (arith, before, at) in
          subst (λ (x : Bounds). LiesWithin x (f i))
          (sym (get_or_append_left bs (b ∷ []) no_bounds (i / 1024) block)) (so_far i before block)
      | inr behind ↦
          let block : i / 1024 ≡ length bs = omega (arith, behind, at, short, h) in
          let item : get_or (map f (range_with_len from n)) (i - from) 0 ≡ f i =
          get_or-map-range_with_len f from n (i - from) i 0 (omega (arith, behind, h))
          (omega (arith, behind)) in
          let lies : LiesWithin b (f i) = subst (LiesWithin b) item (bounds_enclose b
          (map f (range_with_len from n)) (i - from) are
          (omega (arith, length-map-range_with_len f from n, behind, h))) in
          let last : get_or (bs ++ b ∷ []) (i / 1024) no_bounds ≡ b =
          ap (λ k. get_or (bs ++ b ∷ []) k no_bounds) block ∙ get_or-append_at bs b in
          subst (λ (x : Bounds). LiesWithin x (f i)) (sym last) lies
    ]
  where
    get_or-append_at : (bs : List Bounds) (b : Bounds) → get_or (bs ++ b ∷ []) (length bs) no_bounds ≡ b
    get_or-append_at [] b = refl
    get_or-append_at (c ∷ bs) b = get_or-append_at bs b

-- ---- ids that are written

-- one id more is written
pub run_more : (front out : List ℕ) (start n at m x : ℕ) → at < length out → m ≡ n + 1 → x ≡ start + n
    → take at out ≡ front ++ range_with_len start n → take (at + 1) (set out at x) ≡ front ++ range_with_len start m
run_more front out start n at m x within next value so_far =
    take_more_set out at x within
    ∙ ap (λ r. r ++ x ∷ []) so_far
    ∙ append_assoc front (range_with_len start n) (x ∷ [])
    ∙ ap (λ y. front ++ (range_with_len start n ++ y ∷ [])) value
    ∙ ap (λ r. front ++ r) (sym (range-more start n))
    ∙ ap (λ k. front ++ range_with_len start k) (sym next)

-- ---- a collector

-- numbers behind those that were collected, where the divisor is 1
widened_all : (s : Collected) (xs ys : List ℕ) → s.divisor ≡ 1 → s ≡ collected_of xs
    → record {
      least = fold min s.least ys;
      greatest = fold max s.greatest ys;
      divisor = s.divisor;
      count = s.count + length ys;
    } ≡ collected_of (xs ++ ys)
widened_all s xs [] one e =
    let count : s.count + 0 ≡ s.count = omega arith in
    ap (λ n. record s { count = n }) count ∙ e ∙ ap collected_of (sym (append-nil xs))
widened_all s xs (y ∷ ys) one e =
    let more : Collected = record { least = min s.least y; greatest = max s.greatest y; divisor = s.divisor; count = s.count + 1 } in
    let count : s.count + suc (length ys) ≡ s.count + 1 + length ys = omega arith in
    ap (λ n. record {
      least = fold min (min s.least y) ys;
      greatest = fold max (max s.greatest y) ys;
      divisor = s.divisor;
      count = n;
    }) count
    ∙ widened_all more (xs ++ y ∷ []) ys one (collected-widened s xs y _ _ one refl refl e)
    ∙ ap collected_of (append_assoc xs (y ∷ []) ys)

-- a block of them, by its bounds
pub collected-block : (s : Collected) (xs ys : List ℕ) (b : Bounds) (low high n : ℕ) → s.divisor ≡ 1
    → AreBounds b ys → low ≡ min s.least b.least → high ≡ max s.greatest b.greatest → length ys ≡ n
    → s ≡ collected_of xs
    → record { least = low; greatest = high; divisor = s.divisor; count = s.count + n } ≡ collected_of (xs ++ ys)
collected-block s xs ys b low high n one are l h long e =
    let least : low ≡ fold min s.least ys = l ∙ ap (min s.least) are.least ∙ least-with s.least ys are.some in
    let greatest : high ≡ fold max s.greatest ys = h ∙ ap (max s.greatest) are.greatest ∙ greatest-with s.greatest ys in
    (λ i. record { least = least i; greatest = greatest i; divisor = s.divisor; count = s.count + sym long i }) ∙ widened_all s xs ys one e

-- one number more of a block
pub collected-push : (after : Collected) (xs ys : List ℕ) (i : ℕ) → i < length ys
    → after ≡ collected_of ((xs ++ take i ys) ++ get_or ys i 0 ∷ []) → after ≡ collected_of (xs ++ take (i + 1) ys)
collected-push after xs ys i h e =
    e ∙ ap collected_of (append_assoc xs (take i ys) (get_or ys i 0 ∷ []) ∙ ap (λ r. xs ++ r) (sym (take_more ys i 0 h)))
