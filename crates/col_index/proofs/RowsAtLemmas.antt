-- The rows that have positions, put in the place of these.
use Rattle.std.proofs.Common.{◌≡◌, ℕ, zero, suc, ◌+◌, ◌-◌, ◌<◌, ◌≤◌, ◌||◌, nat_lt, nat_eq, inl, inr, Bool, true, false, cond, List, [], ◌∷◌, ◌++◌, length, filter, take, get_or, sum, refl, sym, ap, ◌∙◌, add-one, arith}
use Rattle.std.specs.List.{list_any, range_with_len}
use Rattle.std.proofs.lemmas.Bool.{ltb-true, eq-eqb, ne_eqb, cases_eq, cases_lt, cases_order, or_from}
use Rattle.std.proofs.lemmas.List.Folds.{list_any_more}
use Rattle.col_common.specs.Ascending.{is_rising}
use Rattle.col_model.specs.Index.{RowOffsets, offset_counts}
use Rattle.col_model.specs.Positions.{rank, is_in_row, rows_at}
use Rattle.col_index.specs.Offsets.{AreOffsets}
use Rattle.col_index.proofs.RankLaws.{rows_rise, rank-at, rank-monotone, below_rank}
use Rattle.col_index.proofs.CountLaws.{offset_starts, rows_below, length-offset_counts}
use Rattle.col_index.proofs.SearchLemmas.{rising_pair}
use Rattle.col_index.proofs.InRowLemmas.{some-started, end-unstarted, in_row-before, in_row}
use Rattle.col_index.proofs.StartLemmas.{passes_at}

-- ---- filters of rows

-- nothing passes
pub filter-none : (test : ℕ → Bool) (a n : ℕ) → ((row : ℕ) → a ≤ row → test row ≡ false) → filter test (range_with_len a n) ≡ []
filter-none test a zero f = refl
filter-none test a (suc n) f = rw (f a (omega arith)) (filter-none test (a + 1) n (λ row h. f row (omega arith)))

-- one more row, behind all that pass
filter-more : (test : ℕ → Bool) (last a n : ℕ) → a ≤ last → last < a + n
    → ((row : ℕ) → last ≤ row → test row ≡ false)
    → filter (λ row. test row || nat_eq row last) (range_with_len a n)
    ≡ filter test (range_with_len a n) ++ last ∷ []
filter-more test last a zero h k f = absurd (omega arith)
filter-more test last a (suc n) h k f = elim (cases_eq a last) [
  | inl e ↦
      let rest = filter-none test (a + 1) n (λ row l. f row (omega arith)) in
      let all = filter-none (λ row. test row || nat_eq row last) (a + 1) n (λ row l. or_from (test row)
      (nat_eq row last) (f row (omega arith)) (ne_eqb row last (λ q. omega arith))) in
      rw (f a (omega arith), eq-eqb a last e, rest, all, e) refl
  | inr d ↦ with_head (test a) (nat_eq a last) a _ _ (last ∷ []) (ne_eqb a last d) (filter-more test last (a + 1) n
      (omega arith) (omega arith) f)
]
  where
    with_head : (b e : Bool) (a : ℕ) (xs ys zs : List ℕ) → e ≡ false → xs ≡ ys ++ zs → cond (b || e) (a ∷ xs) xs ≡ cond b (a ∷ ys) ys ++ zs
    with_head true e a xs ys zs f q = ap (λ l. a ∷ l) q
    with_head false e a xs ys zs f q = ap (λ b. cond b (a ∷ xs) xs) f ∙ q

-- ---- positions, one after another

-- the number behind the last of the first positions
abbrev pub after : ℕ → List ℕ → ℕ
after zero ps = 0
after (suc k) ps = get_or ps k 0 + 1

-- behind one position more
pub after-more : (ps : List ℕ) (at p : ℕ) → p ≡ get_or ps at 0 → p + 1 ≡ after (at + 1) ps
after-more ps at p e = ap (λ n. n + 1) e ∙ sym (ap (λ n. after n ps) (add-one at))

-- the first positions are below it
below_after : (ps : List ℕ) (at i : ℕ) → is_rising ps ≡ true → at ≤ length ps → i < at → get_or ps i 0 < after at ps
below_after ps zero i e h k = absurd (omega arith)
below_after ps (suc at) i e h k = elim (cases_lt i at) [
  | inl b ↦ (let up = rising_pair ps i at e b (omega arith) in omega arith)
  | inr b ↦ (let same : i ≡ at = omega arith in omega (arith, ap (λ n. get_or ps n 0) same))
]

-- and the next one is not
after-below : (ps : List ℕ) (at : ℕ) → is_rising ps ≡ true → at < length ps → after at ps ≤ get_or ps at 0
after-below ps zero e h = omega arith
after-below ps (suc at) e h = let up = rising_pair ps at (suc at) e (omega arith) h in omega arith

-- a test that none of the first passes
none_passes : (test : ℕ → Bool) (at : ℕ) (ps : List ℕ) → at ≤ length ps
    → ((i : ℕ) → i < at → test (get_or ps i 0) ≡ false) → list_any test (take at ps) ≡ false
none_passes test zero ps h f = refl
none_passes test (suc at) [] h f = refl
none_passes test (suc at) (p ∷ ps) h f =
    or_from (test p) (list_any test (take at ps)) (f 0 (omega arith))
    (none_passes test at ps (omega arith) (λ i k. f (suc i) (omega arith)))

absorbed : (x b : Bool) → (x || b || b) ≡ (x || b)
absorbed true b = refl
absorbed false true = refl
absorbed false false = refl

module _ (o : RowOffsets) (a : AreOffsets o) (ps : List ℕ) (at : ℕ) (e : is_rising ps ≡ true)
    (within : at < length ps) (inside : get_or ps at 0 < sum (offset_counts o)) where
  abbrev counts : List ℕ
  counts = offset_counts o

  abbrev position : ℕ
  position = get_or ps at 0

  -- the rank of the position's row, and the row
  abbrev last : ℕ
  last = rank o.starts (position + 1) - 1

  abbrev row_of : ℕ
  row_of = get_or o.set.rows last 0

  last-is : rank o.starts (position + 1) ≡ last + 1
  last-is = let some = some-started o a position in omega arith

  last-inside : last < length o.set.rows
  last-inside = let end = end-unstarted o a position inside in omega (arith, last-is)

  -- a row has one of the first positions
  abbrev test : ℕ → Bool
  test row = list_any (λ p. is_in_row counts p row) (take at ps)

  step : rows_at counts (take (at + 1) ps) ≡ filter (λ row. test row || nat_eq row row_of) (range_with_len 0 (length counts))
  step = λ i. filter (λ row. one row i) (range_with_len 0 (length counts))
    where
      one : (row : ℕ) → list_any (λ p. is_in_row counts p row) (take (at + 1) ps) ≡ (test row || nat_eq row row_of)
      one row =
          list_any_more (λ p. is_in_row counts p row) ps at 0 within
          ∙ ap (λ b. test row || b) (in_row o a position row last last-is last-inside)

  below_zero : 0 < rank o.starts 0 → ⊥
  below_zero h = let none = below_rank o.starts 0 0 (offset_starts o a).rises h in omega arith

  -- the row of the position before
  pub select-same : rank o.starts (position + 1) ≡ rank o.starts (after at ps)
      → rows_at counts (take (at + 1) ps) ≡ rows_at counts (take at ps)
  select-same same = step ∙ go at refl
    where
      go : (k : ℕ) → k ≡ at → filter (λ row. test row || nat_eq row row_of) (range_with_len 0 (length counts))
          ≡ filter test (range_with_len 0 (length counts))
      go zero q =
          let some = some-started o a position in
          let first = ap (λ n. rank o.starts (after n ps)) (sym q) in
          absurd (below_zero (omega (arith, same, first)))
      go (suc k) q =
          λ i. filter (λ row. (ap (λ b. b || nat_eq row row_of) (tested row)
          ∙ absorbed (list_any (λ p. is_in_row counts p row) (take k ps)) (nat_eq row row_of) ∙ sym (tested row)) i)
          (range_with_len 0 (length counts))
        where
          up : at ≡ k + 1
          up = omega arith

          earlier : rank o.starts (get_or ps k 0 + 1) ≡ last + 1
          earlier = ap (λ n. rank o.starts (after n ps)) q ∙ sym same ∙ last-is

          tested : (row : ℕ) → test row ≡ (list_any (λ p. is_in_row counts p row) (take k ps) || nat_eq row row_of)
          tested row =
              ap (λ n. list_any (λ p. is_in_row counts p row) (take n ps)) up
              ∙ list_any_more (λ p. is_in_row counts p row) ps k 0 (omega arith)
              ∙ ap (λ b. list_any (λ p. is_in_row counts p row) (take k ps) || b) (in_row o a (get_or ps k 0) row last earlier last-inside)

  -- another row
  pub select-next : (rank o.starts (position + 1) ≡ rank o.starts (after at ps) → ⊥)
      → rows_at counts (take (at + 1) ps) ≡ rows_at counts (take at ps) ++ row_of ∷ []
  select-next other = step ∙ filter-more test row_of 0 (length counts) (omega arith) small before
    where
      small : row_of < 0 + length counts
      small =
          omega (
            arith,
            length-offset_counts o,
            ltb-true _ _
                (passes_at (λ r. nat_lt r o.set.num_rows) o.set.rows last (rows_below o.set a.rows) last-inside),
          )

      fewer : rank o.starts (after at ps) ≤ last
      fewer =
          let up : rank o.starts (after at ps) ≤ rank o.starts (position + 1) =
          rank-monotone o.starts (after at ps) (position + 1) (omega (arith, after-below ps at e within)) in
          elim (cases_order (rank o.starts (position + 1)) (rank o.starts (after at ps))) [
            | inl q ↦ absurd (other q)
            | inr (inl q) ↦ omega arith
            | inr (inr q) ↦ omega (arith, last-is)
          ]

      before : (row : ℕ) → row_of ≤ row → test row ≡ false
      before row h = none_passes (λ p. is_in_row counts p row) at ps (omega arith) (λ i k.
          let low = rank-monotone o.starts (get_or ps i 0 + 1) (after at ps) (omega (arith, below_after ps at i e (omega arith) k)) in
          let high = rank-monotone o.set.rows row_of row h in
          in_row-before o a (get_or ps i 0) row
          (omega (arith, low, fewer, high, rank-at o.set.rows last (rows_rise o.set a.rows) last-inside)))
