-- Counts of the rows before each part of the rows.
use Rattle.std.proofs.Common.{◌≡◌, ℕ, zero, suc, ◌+◌, ◌*◌, ◌/◌, ◌^◌, ◌<◌, ◌≤◌, Bool, true, cond, nat_eq, nat_lt, List, [], ◌∷◌, ◌++◌, length, get_or, set, take, replicate, count_by, sum, refl, sym, ap, ◌∙◌, arith, inl, inr}
use Rattle.std.proofs.lemmas.Bool.{cases_eq, cases_lt, eq-eqb, ne_eqb, lt-ltb, le-ltb}
use Rattle.std.proofs.lemmas.Nat.{div_below, le-div, pow_pos}
use Rattle.std.proofs.Math.Nat.{mul-add, mul-one, mul_comm, mul-div-le, div-mul-le_self, lt-div-mul-add}
use Rattle.std.proofs.lemmas.List.{get_or-set_same, get_or-set_other, get_or-replicate, get_or_append_left, length-set, length-take, take_all}
use Rattle.std.proofs.lemmas.List.Sums.{sum_by-cons, sum_by_more, count_by-le-length}
use Rattle.std.proofs.Math.Seq.{get_or-append_seam}
use Rattle.std.proofs.Math.ListN.{length-append}
use Rattle.std.proofs.lemmas.Option.{get_or_from_slice_get, slice_get_within}
use Rattle.std.specs.Prelude.{slice_get, Some}
use Rattle.col_common.specs.Ascending.{is_rising}
use Rattle.col_model.specs.Positions.{rank}
use Rattle.col_index.specs.Ranks.{IsTableOf, AreCounts, ArePartCounts, AreSums, AreBuckets}
use Rattle.col_index.specs.Search.{IsNarrowed}
use Rattle.col_index.proofs.SearchLemmas.{rank_of_zero}
use Rattle.col_index.proofs.RankLaws.{below_rank, from_rank, rank-le-length, rank-monotone}

-- ---- tables one number after another

-- an empty list is a table of no numbers
pub table_none : (of : ℕ → ℕ) → IsTableOf of 0 []
table_none of = record { long = refl; each = λ k h. absurd (omega arith) }

-- a table with the function's next number at its end is a table of one number more
pub table_more : (of : ℕ → ℕ) (xs : List ℕ) (n x : ℕ) → IsTableOf of n xs → x ≡ of n → IsTableOf of (n + 1) (xs ++ x ∷ [])
table_more of xs n x t e = record {
  long = length-append xs (x ∷ []) ∙ ap (λ k. k + 1) t.long;
  each = λ i h. elim (cases_lt i n) [
    | inl earlier ↦ get_or_append_left xs (x ∷ []) 0 i (omega (arith, t.long)) ∙ t.each i earlier
    | inr last ↦
        let same : length xs ≡ i = omega (arith, t.long) in
        let place : n ≡ i = omega arith in
        ap (λ k. get_or (xs ++ x ∷ []) k 0) (sym same) ∙ (get_or-append_seam xs x [] 0 ∙ (e ∙ ap of place))
  ];
}

-- ---- rows by their parts

-- where the next part starts
behind : (m part : ℕ) → m * (part + 1) ≡ m * part + m
behind m part = mul-add m part 1 ∙ ap (λ k. m * part + k) (mul-one m)

before_part : (m part x : ℕ) → 0 < m → x < m * part → x / m < part
before_part m part x some h = div_below x m part some (omega (arith, mul_comm m part))

from_part : (m part x : ℕ) → 0 < m → m * part ≤ x → part ≤ x / m
from_part m part x some h = le-div part x m some (omega (arith, mul_comm m part))

-- a number of a part
pub in_part : (m part x : ℕ) → 0 < m → m * part ≤ x → x < m * (part + 1) → x / m ≡ part
in_part m part x some from upto = omega (arith, from_part m part x some from, before_part m (part + 1) x some upto)

-- a number lies before the next part
pub part_end : (m x : ℕ) → 0 < m → x < m * (x / m + 1)
part_end m x some = omega (arith, behind m (x / m), lt-div-mul-add {a = x} {b = m} some, mul_comm m (x / m))

-- no part is behind that of a later row
pub part_le : (m row n : ℕ) → 0 < m → row ≤ n → row / m ≤ n / m
part_le m row n some h = le-div (row / m) n m some (omega (arith, div-mul-le_self row m))

-- behind the part of a row stands another count
pub part-followed : (rows before : List ℕ) (n shift row : ℕ) → AreBuckets rows n shift before → row ≤ n
    → row / 2 ^ shift + 1 < length before
part-followed rows before n shift row b h = omega (arith, b.room, part_le (2 ^ shift) row n (pow_pos shift) (omega arith))

-- a row stands before a part, in it or behind it
one_row : (m part x : ℕ) → 0 < m → cond (nat_lt x (m * part)) 1 0 + cond (nat_eq (x / m) part) 1 0 ≡ cond (nat_lt x (m * (part + 1))) 1 0
one_row m part x some = elim (cases_lt x (m * part)) [
  | inl earlier ↦
      let quotient = before_part m part x some earlier in
      rw (
        lt-ltb x (m * part) earlier,
        ne_eqb (x / m) part (λ e. omega (arith, quotient)),
        lt-ltb x (m * (part + 1)) (omega (arith, behind m part)),
      ) refl
  | inr from ↦ elim (cases_lt x (m * (part + 1))) [
    | inl inside ↦
        let low = from_part m part x some from in
        let high = before_part m (part + 1) x some inside in
        rw (le-ltb x (m * part) from, eq-eqb (x / m) part (omega (arith, low, high)), lt-ltb x (m * (part + 1)) inside) refl
    | inr later ↦
        let quotient = from_part m (part + 1) x some later in
        rw (le-ltb x (m * part) from, ne_eqb (x / m) part (λ e. omega (arith, quotient)), le-ltb x (m * (part + 1)) later) refl
  ]
]

-- the rows of a part are those before the next that aren't before it
part_rank : (rows : List ℕ) (m part : ℕ) → 0 < m
    → rank rows (m * part) + count_by (λ row. nat_eq (row / m) part) rows ≡ rank rows (m * (part + 1))
part_rank [] m part some = refl
part_rank (x ∷ xs) m part some =
    omega (
      arith,
      sum_by-cons (λ row. cond (nat_lt row (m * part)) 1 0) x xs,
      sum_by-cons (λ row. cond (nat_eq (row / m) part) 1 0) x xs,
      sum_by-cons (λ row. cond (nat_lt row (m * (part + 1))) 1 0) x xs,
      one_row m part x some,
      part_rank xs m part some,
    )

module _ (rows counts : List ℕ) (m : ℕ) (some : 0 < m) (c : ArePartCounts rows m counts) where
  -- the counts of the parts before one are the rows before it
  pub sum-rank : (part : ℕ) → part ≤ length counts → sum (take part counts) ≡ rank rows (m * part)
  sum-rank zero h = rank_of_zero rows ∙ ap (rank rows) (omega arith)
  sum-rank (suc part) h =
      let next : suc part ≡ part + 1 = omega arith in
      let count = c part (omega arith) in
      let so_far = sum-rank part (omega arith) in
      ap (λ k. sum (take k counts)) next
      ∙ (sum_by_more (λ n. n) counts part 0 (omega arith)
      ∙ (omega (arith, count, so_far, part_rank rows m part some) ∙ ap (λ k. rank rows (m * k)) (sym next)))

  -- the counts of the parts sum up to at most the number of rows
  pub sum_few : sum counts ≤ length rows
  sum_few =
      let all : take (length counts) counts ≡ counts = take_all (length counts) counts (omega arith) in
      omega (arith, ap sum all, sum-rank (length counts) (omega arith), rank-le-length rows (m * length counts))

  -- so the sums are ranks
  pub sums-counts : (before : List ℕ) → AreSums counts before → AreCounts rows m (length counts + 1) before
  sums-counts before s = record {
    long = s.long;
    each = λ part h. s.each part h ∙ sum-rank part (omega arith);
  }

-- the rows before the part of a row are below it, and those from the next part on are not
pub part_narrowed : (rows : List ℕ) (m row low high : ℕ) → 0 < m → is_rising rows ≡ true
    → low ≡ rank rows (m * (row / m)) → high ≡ rank rows (m * (row / m + 1)) → IsNarrowed rows row low high
part_narrowed rows m row low high some e at_low at_high =
    let part : ℕ = row / m in
    let start : m * part ≤ row = mul-div-le row m in
    let end : row < m * (part + 1) = part_end m row some in
    let next = behind m part in
    record {
      ordered = omega (arith, at_low, at_high, rank-monotone rows (m * part) (m * (part + 1)) (omega (arith, next)));
      within = omega (arith, at_high, rank-le-length rows (m * (part + 1)));
      below = λ i h. let below = below_rank rows (m * part) i e (omega (arith, at_low)) in omega (arith, below, start);
      above = λ i h k. let above = from_rank rows (m * (part + 1)) i e (omega (arith, at_high)) k in omega (arith, above, end);
    }

-- ---- rows counted one after another

-- where no row was counted yet, all parts have the count 0
pub parts_none : (m : ℕ) (counts : List ℕ) → counts ≡ replicate (length counts) 0 → ArePartCounts [] m counts
parts_none m counts e part h = ap (λ cs. get_or cs part 0) e ∙ get_or-replicate (length counts) part 0 0 h

-- one row more
counted_more : (rows : List ℕ) (m at row part : ℕ) → slice_get rows at ≡ Some row
    → count_by (λ r. nat_eq (r / m) part) (take (at + 1) rows)
    ≡ count_by (λ r. nat_eq (r / m) part) (take at rows) + cond (nat_eq (row / m) part) 1 0
counted_more rows m at row part read =
    sum_by_more (λ r. cond (nat_eq (r / m) part) 1 0) rows at 0 (slice_get_within rows at row read)
    ∙ ap (λ r. count_by (λ r. nat_eq (r / m) part) (take at rows) + cond (nat_eq (r / m) part) 1 0)
    (get_or_from_slice_get rows at row 0 read)

module _ (rows counts : List ℕ) (m at row : ℕ) (c : ArePartCounts (take at rows) m counts)
    (read : slice_get rows at ≡ Some row) (inside : row / m < length counts) where
  -- one row more raises the count of its part by one
  pub parts_more : ArePartCounts (take (at + 1) rows) m (set counts (row / m) (get_or counts (row / m) 0 + 1))
  parts_more part h =
      let n : ℕ = get_or counts (row / m) 0 + 1 in
      let within : part < length counts = omega (arith, length-set counts (row / m) n) in
      elim (cases_eq part (row / m)) [
        | inl same ↦
            let one : ◌≡◌ {A = ℕ} (cond (nat_eq (row / m) part) 1 0) 1 = ap (λ (b : Bool). cond b 1 0) (eq-eqb (row / m) part (sym same)) in
            ap (λ k. get_or (set counts (row / m) n) k 0) same
            ∙ (get_or-set_same counts (row / m) n 0 inside
            ∙ omega (arith, ap (λ k. get_or counts k 0) same, c part within, counted_more rows m at row part read, one))
        | inr other ↦
            let none : ◌≡◌ {A = ℕ} (cond (nat_eq (row / m) part) 1 0) 0 =
            ap (λ (b : Bool). cond b 1 0) (ne_eqb (row / m) part (λ e. other (sym e))) in
            get_or-set_other counts (row / m) part n 0 other
            ∙ omega (arith, c part within, counted_more rows m at row part read, none)
      ]

  -- a count is no greater than the rows so far
  pub part_few : get_or counts (row / m) 0 ≤ at
  part_few =
      let count = c (row / m) inside in
      omega (arith, count, count_by-le-length (λ r. nat_eq (r / m) (row / m)) (take at rows), length-take at rows)
