-- Lines are read back from their bytes, and offsets from a trained line fit its width.
use Rattle.std.proofs.Common.{◌≡◌, ℕ, zero, suc, ◌+◌, ◌-◌, ◌*◌, ◌/◌, ◌%◌, ◌^◌, ◌<◌, ◌≤◌, inl, inr, true, List, [], ◌∷◌, ◌++◌, map, take, Some, refl, arith, lit<, append_assoc, lt_of_le_of_lt}
use Rattle.std.specs.List.{AllByRecursion, enumerate_from}
use Rattle.std.proofs.lemmas.Bool.{cases_eq, cases_lt, lt-ltb, le-ltb, le-leb, eq-eqb, ne_eqb, or_left}
use Rattle.col_common.specs.Ascending.{AreBelow}
use Rattle.col_bits.specs.Packed.{width, binary_digits, is_width}
use Rattle.col_common.proofs.VIntLemmas.{vint-vint_bytes}
use Rattle.col_model.specs.Stats.{least_of, greatest_of}
use Rattle.col_model.specs.Line.{line, signed_32}
use Rattle.col_model.specs.Training.{less_wrapped, line_of}
use Rattle.col_model.specs.U64List.{LinearParams, params_at}
use Rattle.col_model.specs.Codecs.{params_bytes, offset_from, offsets_from, half_space, block_size, deviation, deviations, linear_line, block_line}
use Rattle.col_model.proofs.StatsLaws.{least_of-all, fold-max, fold-max-one, all_by, all_mapped, mapped_all, all_both}
use Rattle.col_model.proofs.WidthLaws.{width-above}
use Rattle.col_model.proofs.TrainingLaws.{less_wrapped-below, trained_line-below}

binary_digits-at_most : (k n : ℕ) → binary_digits k n ≤ k
binary_digits-at_most zero n = omega arith
binary_digits-at_most (suc k) n =
    elim (cases_eq n 0) [
      | inl e ↦ rw (eq-eqb n 0 e) (omega arith)
      | inr p ↦ rw (ne_eqb n 0 p) (omega (arith, binary_digits-at_most k (n / 2)))
    ]

-- the width of a number is one that a file may name
pub is_width-width : (n : ℕ) → is_width (width n) ≡ true
is_width-width n =
    elim (cases_lt n (2 ^ 56)) [
      | inl p ↦ rw (lt-ltb n (2 ^ 56) p) (or_left _ _ (le-leb (binary_digits 56 n) 56 (binary_digits-at_most 56 n)))
      | inr p ↦ rw (le-ltb n (2 ^ 56) p) refl
    ]

-- a line that can be written
pub record IsWritable (l : LinearParams) : Type 0 where
  pub slope : l.slope < 2 ^ 64
  pub intercept : l.intercept < 2 ^ 64
  pub offset_width : is_width l.offset_width ≡ true

-- a line is read back from its bytes, whatever follows
pub params_at-params_bytes : (l : LinearParams) (rest : List ℕ) → IsWritable l → params_at (params_bytes l ++ rest) ≡ Some (l, rest)
unfolding params_at params_bytes
params_at-params_bytes l rest h =
    rw (append_assoc, append_assoc, vint-vint_bytes l.slope _ h.slope, vint-vint_bytes l.intercept _ h.intercept, h.offset_width) refl

-- the lines that are trained can be written
pub linear_line-writable : (xs : List ℕ) → IsWritable (linear_line xs)
unfolding linear_line
linear_line-writable xs =
    let l = line_of (take block_size xs) in
    let low = least_of (deviations l xs) in
    record {
      slope = (trained_line-below _ _ _ _).0;
      intercept = less_wrapped-below (l.1 + low) half_space;
      offset_width = is_width-width (greatest_of (deviations l xs) - low);
    }

-- the line that is trained on a block has a slope, an intercept and a width that can be written
pub block_line-writable : (xs : List ℕ) → IsWritable (block_line xs)
unfolding block_line
block_line-writable xs =
    let l = line_of xs in
    let bare : LinearParams = record { slope = l.0; intercept = l.1; offset_width = 0 } in
    record {
      slope = (trained_line-below _ _ _ _).0;
      intercept = (trained_line-below _ _ _ _).1;
      offset_width = is_width-width (greatest_of (offsets_from bare xs));
    }

-- a line that is raised by low less half of the space, against one that isn't
raised : (x b low s : ℕ) → low ≤ less_wrapped (x + half_space) ((b + s) % 2 ^ 64)
    → less_wrapped x ((less_wrapped (b + low) half_space + s) % 2 ^ 64)
    ≡ less_wrapped (x + half_space) ((b + s) % 2 ^ 64) - low
raised x b low s h = omega arith

-- an offset from the raised line is the deviation less the least one
pub raised-offset : (l : ℕ × ℕ) (low i x : ℕ) → low ≤ deviation l (i, x)
    → less_wrapped x (line l.0 (less_wrapped (l.1 + low) half_space) i) ≡ deviation l (i, x) - low
unfolding line
raised-offset l low i x h = raised x l.1 low (signed_32 (i * l.0 % 2 ^ 64 / 2 ^ 32)) h

-- the trained line, and the least and the greatest deviation from it
abbrev pub trained : List ℕ → ℕ × ℕ
trained xs = line_of (take block_size xs)

-- the least deviation from the trained line
abbrev pub lowest : List ℕ → ℕ
lowest xs = least_of (deviations (trained xs) xs)

-- the greatest deviation from the trained line
abbrev pub highest : List ℕ → ℕ
highest xs = greatest_of (deviations (trained xs) xs)

deviations-below : (l : ℕ × ℕ) (ps : List (ℕ × ℕ)) → AreBelow (2 ^ 64) (map (deviation l) ps)
deviations-below l [] = tt
deviations-below l (p ∷ ps) = (less_wrapped-below (p.1 + half_space) (line l.0 l.1 p.0), deviations-below l ps)

pub highest-below : (xs : List ℕ) → highest xs < 2 ^ 64
highest-below xs =
    fold-max-one (λ v. v < 2 ^ 64) 0 (deviations (trained xs) xs) (lit< tt)
    (deviations-below (trained xs) (enumerate_from 0 xs))

-- a deviation between the least and the greatest gives an offset that fits
linear-offset : (xs : List ℕ) (p : ℕ × ℕ)
    → (lowest xs ≤ deviation (trained xs) p) × (deviation (trained xs) p ≤ highest xs)
    → (offset_from (linear_line xs) p ≡ deviation (trained xs) p - lowest xs)
    × (offset_from (linear_line xs) p < 2 ^ (linear_line xs).offset_width)
unfolding linear_line
linear-offset xs p h =
    let e = raised-offset (trained xs) (lowest xs) p.0 p.1 h.0 in
    let fits : highest xs - lowest xs < 2 ^ 64 = omega (arith, highest-below xs) in
    let within : deviation (trained xs) p - lowest xs ≤ highest xs - lowest xs = omega (arith, h) in
    (e, rw e (lt_of_le_of_lt within (width-above (highest xs - lowest xs) fits)))

deviations-within : (xs : List ℕ)
    → AllByRecursion (λ p. (lowest xs ≤ deviation (trained xs) p) × (deviation (trained xs) p ≤ highest xs))
    (enumerate_from 0 xs)
deviations-within xs =
    let ps = enumerate_from 0 xs in
    let ds = deviations (trained xs) xs in
    all_both (λ p. lowest xs ≤ deviation (trained xs) p) (λ p. deviation (trained xs) p ≤ highest xs) ps
    (all_mapped (λ v. lowest xs ≤ v) (deviation (trained xs)) ps (least_of-all ds))
    (all_mapped (λ v. v ≤ highest xs) (deviation (trained xs)) ps (fold-max 0 ds).1)

-- the offsets of a list from its trained line fit the line's width
pub linear_offsets-fit : (xs : List ℕ) → AreBelow (2 ^ (linear_line xs).offset_width) (offsets_from (linear_line xs) xs)
linear_offsets-fit xs =
    mapped_all (λ v. v < 2 ^ (linear_line xs).offset_width) (offset_from (linear_line xs)) (enumerate_from 0 xs)
    (all_by (λ p h. (linear-offset xs p h).1) (enumerate_from 0 xs) (deviations-within xs))

-- ---- blocks

-- a block's line without its width
abbrev pub bare_line : List ℕ → LinearParams
bare_line xs = record { slope = (line_of xs).0; intercept = (line_of xs).1; offset_width = 0 }

offsets-below : (l : LinearParams) (ps : List (ℕ × ℕ)) → AreBelow (2 ^ 64) (map (offset_from l) ps)
offsets-below l [] = tt
offsets-below l (p ∷ ps) = (less_wrapped-below p.1 (line l.slope l.intercept p.0), offsets-below l ps)

greatest_offset-below : (l : LinearParams) (xs : List ℕ) → greatest_of (offsets_from l xs) < 2 ^ 64
greatest_offset-below l xs = fold-max-one (λ v. v < 2 ^ 64) 0 (offsets_from l xs) (lit< tt) (offsets-below l (enumerate_from 0 xs))

-- the offsets of a block from its line fit the line's width
pub block_offsets-fit : (xs : List ℕ) → AreBelow (2 ^ (block_line xs).offset_width) (offsets_from (block_line xs) xs)
unfolding block_line
block_offsets-fit xs =
    let os = offsets_from (bare_line xs) xs in
    all_by (λ v h. lt_of_le_of_lt h (width-above (greatest_of os) (greatest_offset-below (bare_line xs) xs))) os (fold-max 0 os).1
