-- A walk over the ends of rows, by the start offsets of all rows.
use Rattle.std.proofs.Common.{◌≡◌, ℕ, ◌+◌, ◌<◌, ◌^◌, List, length, slice_get, Some, min, inl, inr, sym, ap, ◌∙◌, arith}
use Rattle.std.proofs.lemmas.Bool.{cases_lt}
use Rattle.std.proofs.lemmas.Option.{slice_get_within, slice_get_past}
use Rattle.col_common.specs.Ascending.{differences}
use Rattle.col_model.specs.Positions.{rank, rows_with_value, starts_of}
use Rattle.col_index.specs.Offsets.{AreOldOffsets}
use Rattle.col_index.specs.Walked.{IsRanked32, IsHint32}
use Rattle.col_index.proofs.RankLaws.{rank-le-length}
use Rattle.col_index.proofs.CountLaws.{offset_starts}
use Rattle.col_index.proofs.IndexedLaws.{set_of_counts, offsets_of_counts, counts-are_rows}
use Rattle.col_index.proofs.OldStartLemmas.{old-are_offsets}
use Rattle.col_index.proofs.WalkLemmas.{row-behind}

-- a number that isn't 0 tells how many rows stand before it
pub hint-told : (rows : List ℕ) (from place : ℕ) → IsHint32 rows from place → (from ≡ 0 → ⊥)
    → rank rows from ≡ min place (length rows)
hint-told rows from place hint some = elim hint.told [
  | inl z ↦ absurd (some z)
  | inr e ↦ omega (arith, e, rank-le-length rows from)
]

-- before the row behind the next one with a value stands one more
pub next-behind : (cs : List ℕ) → length cs < 2 ^ 32 → (place row : ℕ) → slice_get (rows_with_value cs) place ≡ Some row
    → IsRanked32 (rows_with_value cs) (row + 1) (place + 1)
next-behind cs small place row e = row-behind (set_of_counts cs) (counts-are_rows cs) small place (Some row) (sym e)

-- where there is a next row, so many stand before it as were asked for
pub next-hint : (cs : List ℕ) → length cs < 2 ^ 32 → (place at row : ℕ) → at ≡ min place (length (rows_with_value cs))
    → slice_get (rows_with_value cs) at ≡ Some row → IsHint32 (rows_with_value cs) (row + 1) (place + 1)
next-hint cs small place at row e f =
    let within = slice_get_within (rows_with_value cs) at row f in
    let behind = next-behind cs small at row f in
    record {
      told = inr (omega (arith, behind.ranked, within, e));
      small = behind.small;
    }

-- past the last row all places read the same
pub read-end : (xs : List ℕ) → AreOldOffsets xs → (place at : ℕ) → at ≡ min place (length (rows_with_value (differences xs)))
    → slice_get (starts_of (differences xs)) (at + 1) ≡ slice_get (starts_of (differences xs)) (place + 1)
read-end xs old place at e =
    let rows = rows_with_value (differences xs) in
    let starts = starts_of (differences xs) in
    let long = (offset_starts (offsets_of_counts (differences xs)) (old-are_offsets xs old)).long in
    elim (cases_lt place (length rows)) [
      | inl below ↦ (let same : at ≡ place = omega arith in ap (λ k. slice_get starts (k + 1)) same)
      | inr past ↦ (
          slice_get_past starts (at + 1) (omega (arith, long)) ∙ sym (slice_get_past starts (place + 1) (omega (arith, long)))
          )
    ]
