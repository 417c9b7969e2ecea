-- The test of start offsets of all rows, one after another.
use Rattle.std.proofs.Common.{◌≡◌, ℕ, zero, suc, ◌+◌, ◌^◌, ◌<◌, ◌≤◌, Bool, true, false, ◌&&◌, nat_lt, nat_le, List, [], ◌∷◌, length, drop, slice_index, slice_get, Some, refl, add-one, drop-cons, arith}
use Rattle.std.specs.List.{list_all}
use Rattle.std.proofs.lemmas.Bool.{lt-ltb, le-ltb, le-leb, lt-leb, and_parts, false_from_ne_true}
use Rattle.std.proofs.lemmas.Option.{get_or_from_slice_get, slice_get_within}
use Rattle.col_common.specs.Ascending.{is_never_falling}
use Rattle.col_model.specs.Index.{are_offsets}
use Rattle.col_index.proofs.StartLemmas.{offsets-zeroth, rearranged}

-- the offsets behind one that passes never fall, and are numbers of 32 bits
abbrev pub rest_stays : ℕ → List ℕ → Bool
rest_stays last [] = true
rest_stays last (s ∷ ss) = nat_le last s && nat_lt s (2 ^ 32) && rest_stays s ss

-- the test behind an offset that passes
stays-behind : (s : ℕ) (ss : List ℕ) → (list_all (λ s. nat_lt s (2 ^ 32)) ss && is_never_falling (s ∷ ss)) ≡ rest_stays s ss
stays-behind s [] = refl
stays-behind s (t ∷ ts) =
    rearranged (nat_lt t (2 ^ 32)) (nat_le s t) (list_all (λ s. nat_lt s (2 ^ 32)) ts) (is_never_falling (t ∷ ts))
    (rest_stays t ts) (stays-behind t ts)

-- offsets are none or begin with 0
pub stays-none : (starts : List ℕ) → length starts ≡ 0 → (are_offsets starts && is_never_falling starts) ≡ false
stays-none [] e = refl
stays-none (s ∷ ss) e = absurd (omega arith)

-- a list that doesn't begin with 0 is refused
pub stays-other : (starts : List ℕ) → (slice_index starts 0 ≡ 0 → ⊥) → (are_offsets starts && is_never_falling starts) ≡ false
stays-other starts n = false_from_ne_true _ (λ e.
    n (offsets-zeroth starts (and_parts (are_offsets starts) (is_never_falling starts) e).0))

-- the test of a list that begins with 0
pub stays-first : (starts : List ℕ) → 0 < length starts → slice_index starts 0 ≡ 0
    → (are_offsets starts && is_never_falling starts) ≡ rest_stays 0 (drop 1 starts)
stays-first [] h z = absurd (omega arith)
stays-first (zero ∷ ss) h z = stays-behind zero ss
stays-first (suc s ∷ ss) h z = absurd (omega arith)

-- one more offset
module _ (starts : List ℕ) (last at start : ℕ) (read : slice_get starts at ≡ Some start) where
  behind : rest_stays last (drop at starts) ≡ (nat_le last start && nat_lt start (2 ^ 32) && rest_stays start (drop (at + 1) starts))
  behind =
      let within = slice_get_within starts at start read in
      let same = get_or_from_slice_get starts at start 0 read in
      rw (add-one, drop-cons starts at 0, same) refl

  -- an offset that falls
  pub stays-fallen : start < last → rest_stays last (drop at starts) ≡ false
  stays-fallen h = rw (behind, lt-leb last start h) refl

  -- an offset of more than 32 bits
  pub stays-large : 2 ^ 32 ≤ start → rest_stays last (drop at starts) ≡ false
  stays-large h = rw (behind, le-ltb start (2 ^ 32) h) grind arith

  -- an offset that passes
  pub stays-more : last ≤ start → start < 2 ^ 32 → rest_stays last (drop at starts) ≡ rest_stays start (drop (at + 1) starts)
  stays-more h k = rw (behind, le-leb last start h, lt-ltb start (2 ^ 32) k) refl
