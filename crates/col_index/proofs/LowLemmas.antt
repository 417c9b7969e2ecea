-- Rows against their low bits.
use Rattle.std.proofs.Common.{◌≡◌, ℕ, ◌+◌, ◌-◌, ◌*◌, ◌/◌, ◌%◌, ◌^◌, ◌<◌, ◌≤◌, true, false, nat_eq, List, length, slice_index, Some, None, sym, ap, ◌∙◌, inl, inr, arith}
use native.Mathlib.Nat.{div-div-eq-div-mul}
use Rattle.std.proofs.lemmas.Bool.{cases_eq, cases_lt, eq-eqb, ne_eqb}
use Rattle.std.proofs.lemmas.Nat.{div-add-mod', pow_pos, pow-add}
use Rattle.std.proofs.lemmas.Option.{slice_get-get_or}
use Rattle.col_common.specs.Ascending.{is_rising}
use Rattle.col_common.specs.Reading.{only_if}
use Rattle.col_model.specs.Positions.{rank}
use Rattle.col_index.specs.Sets.{holds}
use Rattle.col_index.specs.RowLows.{AreLows, IsClose, IsPartOf}
use Rattle.col_index.proofs.RankLaws.{below_rank, from_rank, rank-le-length}
use Rattle.col_index.proofs.RangeLemmas.{past-free, other-free}
use Rattle.col_index.proofs.SearchLemmas.{narrowed_less, narrowed_not_less}
use Rattle.col_index.proofs.SetLemmas.{holds_compared}
use Rattle.col_index.proofs.PartLemmas.{part_narrowed, part_end, in_part}

-- ---- numbers of one block

low_less : (m a b : ℕ) → a / m ≡ b / m → a % m < b % m → a < b
low_less m a b same less = omega (arith, ap (λ k. k * m) same, div-add-mod' a m, div-add-mod' b m)

low_not_less : (m a b : ℕ) → a / m ≡ b / m → b % m ≤ a % m → b ≤ a
low_not_less m a b same more = omega (arith, ap (λ k. k * m) same, div-add-mod' a m, div-add-mod' b m)

low_same : (m a b : ℕ) → a / m ≡ b / m → nat_eq (a % m) (b % m) ≡ nat_eq a b
low_same m a b same = elim (cases_eq a b) [
  | inl equal ↦ eq-eqb (a % m) (b % m) (ap (λ k. k % m) equal) ∙ sym (eq-eqb a b equal)
  | inr other ↦ ne_eqb (a % m) (b % m)
      (λ low. other (omega (arith, low, ap (λ k. k * m) same, div-add-mod' a m, div-add-mod' b m)))
      ∙ sym (ne_eqb a b other)
]

-- ---- a row between two places

module _ (rows lows : List ℕ) (row low high : ℕ) (e : is_rising rows ≡ true) (kept : AreLows rows lows)
    (s : IsClose rows row low high) (m : ℕ) (from : low ≤ m) (upto : m < high) where
  within : m < length rows
  within = omega (arith, s.narrowed.within)

  -- where the low bits in the middle are below the row's, the row stands behind the middle
  pub close_less : slice_index lows m < row % 2 ^ 16 → IsClose rows row (m + 1) high
  close_less less =
      let at = kept.each m within in
      let whole = low_less (2 ^ 16) (slice_index rows m) row (s.near m from upto) (omega (arith, at, less)) in
      record {
        narrowed = narrowed_less rows row low high m (slice_index rows m) e s.narrowed from upto (slice_get-get_or rows m 0 within) whole;
        near = λ i h k. s.near i (omega arith) k;
      }

  -- where the low bits in the middle aren't below the row's, the row stands at the middle or before
  pub close_not_less : row % 2 ^ 16 ≤ slice_index lows m → IsClose rows row low m
  close_not_less more =
      let at = kept.each m within in
      let whole = low_not_less (2 ^ 16) (slice_index rows m) row (s.near m from upto) (omega (arith, at, more)) in
      record {
        narrowed =
            narrowed_not_less rows row low high m (slice_index rows m) e s.narrowed from upto
            (slice_get-get_or rows m 0 within) whole;
        near = λ i h k. s.near i h (omega arith);
      }

-- ---- whether the row with a rank has a value

module _ (rows lows : List ℕ) (row low high k : ℕ) (e : is_rising rows ≡ true) (kept : AreLows rows lows)
    (p : IsPartOf rows row low high) (ranked : k ≡ rank rows row) where
  held_by_low : k < high → nat_eq (slice_index lows k) (row % 2 ^ 16) ≡ holds rows row
  held_by_low upto =
      let inside : k < length rows = omega (arith, p.close.narrowed.within) in
      let from : low ≤ k = elim (cases_lt k low) [
        | inl before ↦
            let below = p.close.narrowed.below k before in
            let above = from_rank rows row k e (omega (arith, ranked)) inside in
            absurd (omega (arith, below, above))
        | inr behind ↦ behind
      ] in
      ap (λ n. nat_eq n (row % 2 ^ 16)) (kept.each k inside)
      ∙ (low_same (2 ^ 16) (slice_index rows k) row (p.close.near k from upto)
      ∙ holds_compared rows row k (slice_index rows k) e ranked (slice_get-get_or rows k 0 inside))

  free_behind : high ≤ k → holds rows row ≡ false
  free_behind past = elim (cases_lt k (length rows)) [
    | inl inside ↦
        let above = p.behind k past inside in
        other-free rows row (slice_index rows k) k e ranked (slice_get-get_or rows k 0 inside) (λ same. omega (arith, above, same))
    | inr outside ↦ past-free rows row e (omega (arith, ranked))
  ]

  -- a rank whose low bits are the row's says that the row has a value, which stands there
  pub found_by_low : k < high → slice_index lows k ≡ row % 2 ^ 16 → Some k ≡ only_if (holds rows row) (rank rows row)
  found_by_low upto same =
      let held = sym (held_by_low upto) ∙ eq-eqb (slice_index lows k) (row % 2 ^ 16) same in
      ap Some ranked ∙ sym (ap (λ b. only_if b (rank rows row)) held)

  -- a rank whose low bits aren't the row's says that the row has no value
  pub missed_by_low : k < high → (slice_index lows k ≡ row % 2 ^ 16 → ⊥) → None ≡ only_if (holds rows row) (rank rows row)
  missed_by_low upto other =
      let free = sym (held_by_low upto) ∙ ne_eqb (slice_index lows k) (row % 2 ^ 16) other in
      sym (ap (λ b. only_if b (rank rows row)) free)

  -- a rank behind the rows of the part says that the row has no value
  pub missed_behind : high ≤ k → None ≡ only_if (holds rows row) (rank rows row)
  missed_behind past = sym (ap (λ b. only_if b (rank rows row)) (free_behind past))

-- ---- the part of a row

-- numbers of one small block are of one great block
same_block : (shift a b : ℕ) → shift ≤ 16 → a / 2 ^ shift ≡ b / 2 ^ shift → a / 2 ^ 16 ≡ b / 2 ^ 16
same_block shift a b short same =
    let whole : shift + (16 - shift) ≡ 16 = omega arith in
    let parts : 2 ^ 16 ≡ 2 ^ shift * 2 ^ (16 - shift) = ap (λ k. 2 ^ k) (sym whole) ∙ pow-add 2 shift (16 - shift) in
    let of : (n : ℕ) → n / 2 ^ shift / 2 ^ (16 - shift) ≡ n / 2 ^ 16 =
    λ n. div-div-eq-div-mul n (2 ^ shift) (2 ^ (16 - shift)) ∙ ap (λ d. n / d) (sym parts) in
    sym (of a) ∙ (ap (λ q. q / 2 ^ (16 - shift)) same ∙ of b)

-- the ranks at both ends of the block of a row enclose it, for blocks of at most 2 ^ 16 rows
pub part_of : (rows : List ℕ) (shift row low high : ℕ) → shift ≤ 16 → is_rising rows ≡ true
    → low ≡ rank rows (2 ^ shift * (row / 2 ^ shift)) → high ≡ rank rows (2 ^ shift * (row / 2 ^ shift + 1))
    → IsPartOf rows row low high
part_of rows shift row low high short e at_low at_high =
    let m : ℕ = 2 ^ shift in
    let part : ℕ = row / m in
    let end = part_end m row (pow_pos shift) in
    record {
      close = record {
        narrowed = part_narrowed rows m row low high (pow_pos shift) e at_low at_high;
        near = λ i h k.
            let start = from_rank rows (m * part) i e (omega (arith, at_low))
            (omega (arith, at_high, rank-le-length rows (m * (part + 1)))) in
            let stop = below_rank rows (m * (part + 1)) i e (omega (arith, at_high)) in
            same_block shift (slice_index rows i) row short (in_part m part (slice_index rows i) (pow_pos shift) start stop);
      };
      behind = λ i h k. let above = from_rank rows (m * (part + 1)) i e (omega (arith, at_high)) k in omega (arith, above, end);
    }
