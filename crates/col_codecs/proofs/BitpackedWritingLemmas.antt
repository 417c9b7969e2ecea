-- The steps of a list, packed, and how many bytes they take.
use Rattle.std.proofs.Common.{◌≡◌, ℕ, ◌+◌, ◌-◌, ◌*◌, ◌/◌, ◌^◌, ◌<◌, ◌≤◌, List, ◌++◌, length, refl, ◌∙◌, ap, arith, lt_of_le_of_lt, div-le_self, le_trans, div-mul-le_self}
use Rattle.std.specs.List.{AllByRecursion}
use Rattle.std.specs.Int.{div_ceil}
use Rattle.std.proofs.lemmas.Nat.{le-div}
use Rattle.col_bits.specs.Packed.{packed_bytes, width}
use Rattle.col_model.specs.Stats.{Stats, stats_of, steps_of, stats_bytes, greatest_of}
use Rattle.col_model.specs.Codecs.{steps_above, bitpacked_body, bitpacked_estimate}
use Rattle.col_model.proofs.StatsLaws.{all_by, mapped_all}
use Rattle.col_model.proofs.U64ListLaws.{Describes, stats_of-describes}
use Rattle.col_model.proofs.WidthLaws.{width-above}
use Rattle.col_codecs.specs.ColumnStats.{IsAbove}
use Rattle.col_codecs.specs.Turning.{packed_by_position, ArePackable}
use Rattle.col_codecs.proofs.PossibleLemmas.{small_by_greatest}
use Rattle.col_codecs.proofs.TurningLemmas.{by_position-alone}

-- ---- by the statistics of the list

greatest-below : (s : Stats) (xs : List ℕ) → s ≡ stats_of xs → s.greatest < 2 ^ 64 → greatest_of xs < 2 ^ 64
unfolding stats_of
greatest-below s xs e h = omega (arith, ap (λ t. t.greatest) e, h)

-- the steps of a list by its statistics
pub steps-packable : (s : Stats) (xs : List ℕ) (w : ℕ) → s ≡ stats_of xs → s.greatest < 2 ^ 64 → length xs < 2 ^ 32
    → w ≡ width (steps_of s) → ArePackable (IsAbove s) (λ p. (p.1 - s.least) / s.divisor) w 0 xs
steps-packable s xs w e h few is =
    let d : Describes xs s = rw e (stats_of-describes xs (small_by_greatest (2 ^ 64) xs (greatest-below s xs e h))) in
    let most : steps_of s < 2 ^ 64 = lt_of_le_of_lt (div-le_self (s.greatest - s.least) s.divisor) (omega (arith, h)) in
    let step : ℕ → ℕ = λ x. (x - s.least) / s.divisor in
    let fits : AllByRecursion (λ x. step x < 2 ^ w) xs =
    all_by (λ x p. rw is (lt_of_le_of_lt (steps-within s x d.positive p) (width-above (steps_of s) most))) xs
    d.within in
    record {
      taken = all_by (λ x p. (p, d.positive)) xs d.below;
      small = rw (by_position-alone step 0 xs) (mapped_all (λ v. v < 2 ^ w) step xs fits);
      count = omega (arith, few);
    }
  where
    steps-within : (s : Stats) (x : ℕ) → 0 < s.divisor → x ≤ s.greatest → (x - s.least) / s.divisor ≤ steps_of s
    steps-within s x p h =
        le-div ((x - s.least) / s.divisor) (s.greatest - s.least) s.divisor p
        (le_trans (div-mul-le_self (x - s.least) s.divisor) (omega (arith, h)))

-- the estimate
pub estimated : (s : Stats) (xs : List ℕ) (bytes w : ℕ) → s ≡ stats_of xs → bytes ≡ length (stats_bytes s)
    → w ≡ width (steps_of s) → bytes + div_ceil (s.count * w) 8 ≡ bitpacked_estimate xs
unfolding bitpacked_estimate stats_of
estimated s xs bytes w e f g = rw (f, g, e) refl

-- the body
pub body-bytes : (s : Stats) (xs : List ℕ) (w : ℕ) → s ≡ stats_of xs → w ≡ width (steps_of s)
    → stats_bytes s ++ packed_by_position (λ p. (p.1 - s.least) / s.divisor) w 0 xs ≡ bitpacked_body xs
unfolding bitpacked_body
body-bytes s xs w e is =
    ap (λ ys. stats_bytes s ++ packed_bytes w ys) (by_position-alone (λ x. (x - s.least) / s.divisor) 0 xs)
    ∙ ap (λ v. stats_bytes s ++ packed_bytes v (steps_above s xs)) is
    ∙ rw e refl
