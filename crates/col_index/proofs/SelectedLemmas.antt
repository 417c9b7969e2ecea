-- Rows of a set that are selected by their ranks.
use Rattle.std.proofs.Common.{◌≡◌, ℕ, ◌+◌, ◌<◌, ◌≤◌, ◌&&◌, ◌||◌, nat_eq, nat_lt, nat_le, Bool, true, List, [], ◌∷◌, length, map, get_or, Some, refl, sym, ap, ◌∙◌, inl, inr, arith}
use Rattle.std.specs.List.{list_all, list_any, range_with_len, filter, sum, slice_get}
use Rattle.std.proofs.Math.Bool.{and-false}
use Rattle.std.proofs.lemmas.Bool.{and_parts, and_from, lt-ltb, le-ltb, le-leb, lt-leb, ltb-true, eq-eqb, ne_eqb, cases_lt, cases_order}
use Rattle.std.proofs.lemmas.Option.{get_or_from_slice_get}
use Rattle.col_common.specs.Ascending.{is_rising, AreBelow}
use Rattle.col_model.specs.Index.{RowSet, set_counts}
use Rattle.col_model.specs.Positions.{rank, start_of, is_in_row, rows_at}
use Rattle.col_index.specs.Sets.{AreRows, holds}
use Rattle.col_index.proofs.RankLaws.{rows_rise, rank-at, below_rank, from_rank, tail_rises}
use Rattle.col_index.proofs.SpreadLaws.{all_below}
use Rattle.col_index.proofs.CountLaws.{rows_below, set_counts-start, sum-set_counts, length-set_counts}
use Rattle.col_index.proofs.MemberLaws.{filter-holds}
use Rattle.col_index.proofs.StartLemmas.{passes_at}

-- the rows of ranks
abbrev pub rows_of : List ℕ → List ℕ → List ℕ
rows_of rows ranks = map (λ k. get_or rows k 0) ranks

-- positions below the count of values are ranks
pub ranks_below : (s : RowSet) → AreRows s → (ranks : List ℕ)
    → list_all (λ p. nat_lt p (sum (set_counts s))) ranks ≡ true → AreBelow (length s.rows) ranks
ranks_below s a ranks e = all_below (length s.rows) ranks (ap (λ n. list_all (λ p. nat_lt p n) ranks) (sym (sum-set_counts s a)) ∙ e)

-- what was selected one by one
pub selected_each : (rows ranks xs : List ℕ) → map Some xs ≡ map (slice_get rows) ranks → xs ≡ rows_of rows ranks
selected_each rows [] [] e = refl
selected_each rows [] (x ∷ xs) e = absurd (cc)
selected_each rows (k ∷ ranks) [] e = absurd (cc)
selected_each rows (k ∷ ranks) (x ∷ xs) e =
    let first : slice_get rows k ≡ Some x = cc in
    let rest : map Some xs ≡ map (slice_get rows) ranks = cc in
    let here = get_or_from_slice_get rows k x 0 first in
    let more = selected_each rows ranks xs rest in
    cc

-- ranks that rise select rows that rise
selected_rise : (rows ranks : List ℕ) → is_rising rows ≡ true → is_rising ranks ≡ true
    → AreBelow (length rows) ranks → is_rising (rows_of rows ranks) ≡ true
selected_rise rows [] r e b = refl
selected_rise rows (k ∷ []) r e b = refl
selected_rise rows (j ∷ k ∷ ranks) r e b =
    let up = ltb-true j k (and_parts (nat_lt j k) (is_rising (k ∷ ranks)) e).0 in
    let here = rank-at rows k r b.1.0 in
    let low : get_or rows j 0 < get_or rows k 0 = below_rank rows (get_or rows k 0) j r (omega (arith, here, up)) in
    and_from _ _ (lt-ltb (get_or rows j 0) (get_or rows k 0) low) (selected_rise rows (k ∷ ranks) r (tail_rises j (k ∷ ranks) e) b.1)

selected_below : (rows ranks : List ℕ) (n : ℕ) → list_all (λ r. nat_lt r n) rows ≡ true
    → AreBelow (length rows) ranks → list_all (λ r. nat_lt r n) (rows_of rows ranks) ≡ true
selected_below rows [] n e b = refl
selected_below rows (k ∷ ranks) n e b = and_from _ _ (passes_at (λ r. nat_lt r n) rows k e b.0) (selected_below rows ranks n e b.1)

-- the one value of a row has the row's rank for its position
in_row : (s : RowSet) → AreRows s → (p row : ℕ) → p < length s.rows → is_in_row (set_counts s) p row ≡ nat_eq (get_or s.rows p 0) row
in_row s a p row h =
    ap (λ from. nat_le from p && nat_lt p (start_of (set_counts s) (row + 1))) (set_counts-start s a row)
    ∙ ap (λ upto. nat_le (rank s.rows row) p && nat_lt p upto) (set_counts-start s a (row + 1))
    ∙ by_order
  where
    up : is_rising s.rows ≡ true
    up = rows_rise s a

    before : (t : ℕ) → get_or s.rows p 0 < t → p < rank s.rows t
    before t low =
        elim (cases_lt p (rank s.rows t))
        [ inl l ↦ l | inr m ↦ absurd (let n = from_rank s.rows t p up m h in omega (arith, n, low)) ]

    behind : (t : ℕ) → t ≤ get_or s.rows p 0 → rank s.rows t ≤ p
    behind t high =
        elim (cases_lt p (rank s.rows t))
        [ inl l ↦ absurd (let n = below_rank s.rows t p up l in omega (arith, n, high)) | inr m ↦ m ]

    by_order : (nat_le (rank s.rows row) p && nat_lt p (rank s.rows (row + 1))) ≡ nat_eq (get_or s.rows p 0) row
    by_order = elim (cases_order (get_or s.rows p 0) row) [
      | inl e ↦ and_from _ _ (le-leb (rank s.rows row) p (behind row (omega (arith, e))))
          (lt-ltb p (rank s.rows (row + 1)) (before (row + 1) (omega (arith, e))))
          ∙ sym (eq-eqb (get_or s.rows p 0) row e)
      | inr (inl low) ↦ ap (λ b. b && nat_lt p (rank s.rows (row + 1))) (lt-leb (rank s.rows row) p (before row low))
          ∙ sym (ne_eqb (get_or s.rows p 0) row (λ e. omega (arith, e, low)))
      | inr (inr high) ↦ ap (λ b. nat_le (rank s.rows row) p && b) (le-ltb p (rank s.rows (row + 1))
          (behind (row + 1) (omega (arith, high)))) ∙ and-false (nat_le (rank s.rows row) p)
          ∙ sym (ne_eqb (get_or s.rows p 0) row (λ e. omega (arith, e, high)))
    ]

any_in_row : (s : RowSet) → AreRows s → (ranks : List ℕ) (row : ℕ) → AreBelow (length s.rows) ranks
    → list_any (λ p. is_in_row (set_counts s) p row) ranks ≡ holds (rows_of s.rows ranks) row
any_in_row s a [] row b = refl
any_in_row s a (k ∷ ranks) row b =
    ap (λ t. t || list_any (λ p. is_in_row (set_counts s) p row) ranks) (in_row s a k row b.0)
    ∙ ap (λ t. nat_eq (get_or s.rows k 0) row || t) (any_in_row s a ranks row b.1)

-- the rows that have the positions are those of the ranks
pub rows_at-selected : (s : RowSet) → AreRows s → (ranks : List ℕ) → is_rising ranks ≡ true
    → list_all (λ p. nat_lt p (sum (set_counts s))) ranks ≡ true
    → rows_of s.rows ranks ≡ rows_at (set_counts s) ranks
rows_at-selected s a ranks r e =
    let b = ranks_below s a ranks e in
    let chosen : RowSet = record { num_rows = s.num_rows; rows = rows_of s.rows ranks } in
    let test : ℕ → Bool = λ row. list_any (λ p. is_in_row (set_counts s) p row) ranks in
    let are : AreRows chosen = and_from _ _ (selected_rise s.rows ranks (rows_rise s a) r b)
    (selected_below s.rows ranks s.num_rows (rows_below s a) b) in
    sym (ap (λ n. filter test (range_with_len 0 n)) (length-set_counts s)
    ∙ filter-holds chosen are test (λ row. any_in_row s a ranks row b))
