-- How many runs start at a row or before it.
use Rattle.std.proofs.Common.{◌≡◌, ℕ, ◌+◌, ◌-◌, ◌*◌, ◌/◌, ◌^◌, ◌<◌, ◌≤◌, nat_le, true, List, length, get_or, slice_index, subst, ap, ◌∙◌, inl, inr, arith}
use Rattle.std.proofs.lemmas.Bool.{cases_lt, le-leb, lt-leb}
use Rattle.std.proofs.lemmas.List.{get_or_read}
use Rattle.std.proofs.lemmas.Option.{slice_get-get_or}
use Rattle.std.specs.Int.{from_bool}
use Rattle.col_common.specs.Ascending.{is_rising}
use Rattle.col_model.specs.Index.{RowSet}
use Rattle.col_model.specs.Positions.{rank}
use Rattle.col_index.specs.RunStarts.{AreNexts, AreRunStarts}
use Rattle.col_index.specs.Search.{IsNarrowed}
use Rattle.col_index.proofs.RankLaws.{rows_rise, narrowed-rank, below_rank, from_rank, rank-le-length, rank-monotone}
use Rattle.col_index.proofs.SearchLemmas.{rising_pair, narrowed_less, narrowed_not_less}
use Rattle.col_index.proofs.PartLemmas.{part_end}
use Rattle.std.proofs.Math.Nat.{mul-div-le}

-- the starts before the part of a row aren't behind the row, and those from the next part on are
pub part_upto : (rows : List ℕ) (m row low high : ℕ) → 0 < m → is_rising rows ≡ true
    → low ≡ rank rows (m * (row / m)) → high ≡ rank rows (m * (row / m + 1)) → IsNarrowed rows (row + 1) low high
part_upto rows m row low high some e at_low at_high =
    let part : ℕ = row / m in
    let start : m * part ≤ row = mul-div-le row m in
    let end : row < m * (part + 1) = part_end m row some in
    record {
      ordered = omega (arith, at_low, at_high, rank-monotone rows (m * part) (m * (part + 1)) (omega (arith, start, end)));
      within = omega (arith, at_high, rank-le-length rows (m * (part + 1)));
      below = λ i h. let below = below_rank rows (m * part) i e (omega (arith, at_low)) in omega (arith, below, start);
      above = λ i h k. let above = from_rank rows (m * (part + 1)) i e (omega (arith, at_high)) k in omega (arith, above, end);
    }

module _ (starts nexts : List ℕ) (row : ℕ) (e : is_rising starts ≡ true) (n : AreNexts starts nexts) where
  -- a number that isn't behind the row is a start, where the row isn't the greatest number
  is_start : (k : ℕ) → row < 2 ^ 32 - 1 → k ≤ length starts → slice_index nexts k ≤ row → k < length starts
  is_start k small within taken = elim (cases_lt k (length starts)) [
    | inl inside ↦ inside
    | inr past ↦
        let same : k ≡ length starts = omega arith in
        absurd (omega (arith, ap (λ j. slice_index nexts j) same, n.last))
  ]

  -- so many of the starts aren't behind the row
  pub record AreUpTo (k : ℕ) : Type 0 where
    pub within : k ≤ length starts
    pub below : (i : ℕ) → i < k → slice_index starts i < row + 1

  -- one more, or none, as the next one is
  count_more : (k more : ℕ) → row < 2 ^ 32 - 1 → AreUpTo k → more ≡ from_bool (nat_le (slice_index nexts k) row)
      → AreUpTo (k + more)
  count_more k more small r b = elim (cases_lt row (slice_index nexts k)) [
    | inl free ↦
        let none : more ≡ 0 = b ∙ ap from_bool (lt-leb (slice_index nexts k) row free) in
        let same : k ≡ k + more = omega arith in
        subst AreUpTo same r
    | inr taken ↦
        let one : more ≡ 1 = b ∙ ap from_bool (le-leb (slice_index nexts k) row taken) in
        let inside = is_start k small r.within taken in
        record {
          within = omega arith;
          below = λ i h. elim (cases_lt i k) [
            | inl earlier ↦ r.below i earlier
            | inr last ↦
                let same : k ≡ i = omega arith in
                subst (λ j. slice_index starts j < row + 1) same (omega (arith, n.each k inside))
          ];
        }
  ]

  -- those before the part of the row, and the next one where it isn't behind the row
  pub count_part : (low high more next : ℕ) → row < 2 ^ 32 - 1 → IsNarrowed starts (row + 1) low high
      → next ≡ slice_index nexts low → more ≡ from_bool (nat_le next row) → AreUpTo (low + more)
  count_part low high more next small s read b =
      count_more low more small (record { within = omega (arith, s.ordered, s.within); below = s.below })
      (b ∙ ap (λ k. from_bool (nat_le k row)) read)

  -- where the next one is behind the row they are all
  pub count_done : (k : ℕ) → AreUpTo k → row < slice_index nexts k → k ≡ rank starts (row + 1)
  count_done k r free = narrowed-rank starts (row + 1) k (record {
    ordered = omega arith;
    within = r.within;
    below = r.below;
    above = λ i h l. elim (cases_lt k i) [
      | inl later ↦ let up = rising_pair starts k i e later l in omega (arith, up, n.each k (omega arith))
      | inr here ↦
          let same : k ≡ i = omega arith in
          subst (λ j. row + 1 ≤ slice_index starts j) same (omega (arith, n.each k (omega arith)))
    ];
  })

  -- a start in the middle is compared
  module _ (low high m : ℕ) (s : IsNarrowed starts (row + 1) low high) (from : low ≤ m) (upto : m < high) where
    inside : m < length starts
    inside = omega (arith, s.within)

    pub between_taken : slice_index nexts m ≤ row → IsNarrowed starts (row + 1) (m + 1) high
    between_taken taken =
        narrowed_less starts (row + 1) low high m (slice_index starts m) e s from upto (slice_get-get_or starts m 0 inside)
        (omega (arith, n.each m inside))

    pub between_free : row < slice_index nexts m → IsNarrowed starts (row + 1) low m
    between_free free =
        narrowed_not_less starts (row + 1) low high m (slice_index starts m) e s from upto (slice_get-get_or starts m 0 inside)
        (omega (arith, n.each m inside))

-- ---- what is read of the starts for a row

-- the next start of the row's part was taken in where it isn't behind the row
module _ (s : RowSet) (nexts : List ℕ) (shift : ℕ) (before : List ℕ) (kept : AreRunStarts s nexts shift before)
    (row low high next more : ℕ) (small : row < 2 ^ 32 - 1) (part : IsNarrowed s.rows (row + 1) low high)
    (read : next ≡ get_or nexts low next) (b : more ≡ from_bool (nat_le next row)) where
  found : AreUpTo s.rows nexts row (rows_rise s kept.rows) kept.ahead (low + more)
  found =
      count_part s.rows nexts row (rows_rise s kept.rows) kept.ahead low high more next small part
      (get_or_read nexts low next (omega (arith, part.ordered, part.within, kept.ahead.long)) read 0) b

  -- so many are starts
  pub read_within : low + more ≤ length s.rows
  read_within = found.within

  -- where the next one is behind the row they are all that aren't
  pub read_done : (behind : ℕ) → behind ≡ get_or nexts (low + more) behind → row < behind → low + more ≡ rank s.rows (row + 1)
  read_done behind last free =
      let second = get_or_read nexts (low + more) behind (omega (arith, found.within, kept.ahead.long)) last 0 in
      count_done s.rows nexts row (rows_rise s kept.rows) kept.ahead (low + more) found (omega (arith, free, second))
