-- Start offsets, one after another.
use Rattle.std.proofs.Common.{◌≡◌, ℕ, zero, suc, ◌+◌, ◌^◌, ◌==◌, ◌<◌, ◌≤◌, Bool, true, false, ◌&&◌, nat_eq, nat_lt, List, [], ◌∷◌, length, drop, slice_index, slice_get, Some, refl, add-one, drop-cons, arith}
use Rattle.std.specs.List.{list_all, starts_with}
use Rattle.std.proofs.lemmas.Bool.{and_parts, lt-ltb, le-ltb, ltb-true, eqb-true, eq-eqb}
use Rattle.std.proofs.Math.Bool.{and-true}
use Rattle.std.proofs.lemmas.Option.{get_or_from_slice_get, slice_get_within}
use Rattle.col_common.specs.Ascending.{is_rising, AreBelow}
use Rattle.col_model.specs.Index.{are_offsets}
use Rattle.col_index.specs.Offsets.{is_start_list}
use Rattle.col_index.proofs.SpreadLaws.{all_below}

-- what passes for each passes at a place
pub passes_at : (test : ℕ → Bool) (xs : List ℕ) (i : ℕ) → list_all test xs ≡ true → i < length xs → test (slice_index xs i) ≡ true
passes_at test [] i e h = absurd (omega arith)
passes_at test (x ∷ xs) zero e h = (and_parts (test x) (list_all test xs) e).0
passes_at test (x ∷ xs) (suc i) e h = passes_at test xs i (and_parts (test x) (list_all test xs) e).1 (omega arith)

-- the parts of the test
pub record IsStartList (n : ℕ) (starts : List ℕ) : Type 0 where
  pub count : length starts ≡ n + 1
  pub rising : is_rising starts ≡ true
  pub small : list_all (λ s. nat_lt s (2 ^ 32)) starts ≡ true
  pub zeroth : slice_index starts 0 ≡ 0

-- the first offset that is asked for
zeroth-from : (starts : List ℕ) → starts_with nat_eq starts (0 ∷ []) ≡ true → slice_index starts 0 ≡ 0
zeroth-from [] e = refl
zeroth-from (s ∷ ss) e = grind arith

-- a list that passes has them
pub start_list-parts : (n : ℕ) (starts : List ℕ) → is_start_list n starts ≡ true → IsStartList n starts
start_list-parts n starts e =
    let first = starts_with nat_eq starts (0 ∷ []) in
    let small = list_all (λ s. nat_lt s (2 ^ 32)) starts in
    let all = and_parts (first && small && is_rising starts) (length starts == n + 1) e in
    let rising = and_parts (first && small) (is_rising starts) all.0 in
    let offsets = and_parts first small rising.0 in
    record { count = eqb-true _ _ all.1; rising = rising.1; small = offsets.1; zeroth = zeroth-from starts offsets.0 }

-- each is a number of 32 bits
pub start-fits : (n : ℕ) (starts : List ℕ) (i v : ℕ) → is_start_list n starts ≡ true → slice_get starts i ≡ Some v → v < 2 ^ 32
start-fits n starts i v e g =
    let within = slice_get_within starts i v g in
    let same = get_or_from_slice_get starts i v 0 g in
    let small = ltb-true _ _ (passes_at (λ s. nat_lt s (2 ^ 32)) starts i (start_list-parts n starts e).small within) in
    omega (arith, small, same)

-- all are
pub starts-below : (n : ℕ) (starts : List ℕ) → is_start_list n starts ≡ true → AreBelow (2 ^ 32) starts
starts-below n starts e = all_below (2 ^ 32) starts (start_list-parts n starts e).small

-- offsets begin with 0
pub offsets-zeroth : (starts : List ℕ) → are_offsets starts ≡ true → slice_index starts 0 ≡ 0
offsets-zeroth starts e = zeroth-from starts (and_parts (starts_with nat_eq starts (0 ∷ [])) (list_all (λ s. nat_lt s (2 ^ 32)) starts) e).0

-- ---- the test, one offset after another

-- of the offsets behind one that passes
abbrev pub rest_rises : ℕ → List ℕ → Bool
rest_rises last [] = true
rest_rises last (s ∷ ss) = nat_lt last s && nat_lt s (2 ^ 32) && rest_rises s ss

-- what is asked of one offset and of the rest, taken together and one after another
pub rearranged : (a b c d r : Bool) → (c && d) ≡ r → (a && c && (b && d)) ≡ (b && a && r)
rearranged a b c d r e = grind arith

-- the test behind an offset that passes
rises-behind : (s : ℕ) (ss : List ℕ) → (list_all (λ s. nat_lt s (2 ^ 32)) ss && is_rising (s ∷ ss)) ≡ rest_rises s ss
rises-behind s [] = refl
rises-behind s (t ∷ ts) =
    rearranged (nat_lt t (2 ^ 32)) (nat_lt s t) (list_all (λ s. nat_lt s (2 ^ 32)) ts) (is_rising (t ∷ ts))
    (rest_rises t ts) (rises-behind t ts)

-- the test of a list with the right count and the right first offset
pub rises-first : (n : ℕ) (starts : List ℕ) → length starts ≡ n + 1 → slice_index starts 0 ≡ 0
    → is_start_list n starts ≡ rest_rises 0 (drop 1 starts)
rises-first n [] e z = absurd (omega arith)
rises-first n (zero ∷ ss) e z = rw (eq-eqb (length (zero ∷ ss)) (n + 1) e, and-true) (rises-behind zero ss)
rises-first n (suc s ∷ ss) e z = absurd (omega arith)

-- one more offset
module _ (starts : List ℕ) (last at start : ℕ) (read : slice_get starts at ≡ Some start) where
  behind : rest_rises last (drop at starts) ≡ (nat_lt last start && nat_lt start (2 ^ 32) && rest_rises start (drop (at + 1) starts))
  behind =
      let within = slice_get_within starts at start read in
      let same = get_or_from_slice_get starts at start 0 read in
      rw (add-one, drop-cons starts at 0, same) refl

  -- an offset that is no greater
  pub rises-fallen : start ≤ last → rest_rises last (drop at starts) ≡ false
  rises-fallen h = rw (behind, le-ltb last start h) refl

  -- an offset of more than 32 bits
  pub rises-large : 2 ^ 32 ≤ start → rest_rises last (drop at starts) ≡ false
  rises-large h = rw (behind, le-ltb start (2 ^ 32) h) grind arith

  -- an offset that passes
  pub rises-more : last < start → start < 2 ^ 32 → rest_rises last (drop at starts) ≡ rest_rises start (drop (at + 1) starts)
  rises-more h k = rw (behind, lt-ltb last start h, lt-ltb start (2 ^ 32) k) refl
