-- Rows that have a value, by their ranks and one after another.
use Rattle.std.proofs.Common.{◌≡◌, ℕ, suc, ◌+◌, ◌-◌, ◌^◌, ◌<◌, ◌≤◌, ◌&&◌, Bool, true, false, nat_eq, nat_lt, nat_le, List, [], ◌∷◌, length, drop, get_or, slice_get, slice_index_or, Some, None, refl, sym, ap, ◌∙◌, inl, inr, arith}
use Rattle.std.specs.List.{list_all}
use Rattle.std.proofs.lemmas.Bool.{and_parts, le-leb, ltb-true, eq-eqb, ne_eqb, cases_lt, cases_order}
use Rattle.std.proofs.lemmas.Bool.Decides.{nat_tests}
use Rattle.std.proofs.lemmas.List.{get_or_past, drop_more}
use Rattle.std.proofs.lemmas.Option.{get_or_from_slice_get, slice_get_within, slice_get-get_or}
use Rattle.col_common.specs.Reading.{only_if}
use Rattle.col_common.specs.Ascending.{is_rising}
use Rattle.col_model.specs.Index.{RowSet}
use Rattle.col_model.specs.Positions.{rank}
use Rattle.col_model.proofs.ItemLaws.{only_if-some, only_if-none}
use Rattle.col_index.specs.Sets.{AreRows, holds, is_row_list}
use Rattle.col_index.proofs.RankLaws.{tail_rises}
use Rattle.col_index.proofs.CountLaws.{rows_below}
use Rattle.col_index.proofs.RangeLemmas.{past-free, other-free, same-held}
use Rattle.col_index.proofs.StartLemmas.{passes_at}

-- ---- rows

-- a row is below its count
pub row_below : (s : RowSet) (k row : ℕ) → AreRows s → slice_get s.rows k ≡ Some row → row < s.num_rows
row_below s k row a read =
    let within = slice_get_within s.rows k row read in
    let same = get_or_from_slice_get s.rows k row 0 read in
    let below = ltb-true _ _ (passes_at (λ r. nat_lt r s.num_rows) s.rows k (rows_below s a) within) in
    omega (arith, below, same)

-- there are no more of them than from the first up to the count
room : (n x : ℕ) (xs : List ℕ) → is_rising (x ∷ xs) ≡ true → list_all (λ r. nat_lt r n) (x ∷ xs) ≡ true → x + suc (length xs) ≤ n
room n x [] e b =
    let first : x < n = ltb-true x n (and_parts _ _ b).0 in
    omega arith
room n x (y ∷ ys) e b =
    let first : x < y = ltb-true x y (and_parts (nat_lt x y) (is_rising (y ∷ ys)) e).0 in
    let rest = room n y ys (tail_rises x (y ∷ ys) e) (and_parts (nat_lt x n) (list_all (λ r. nat_lt r n) (y ∷ ys)) b).1 in
    omega arith

-- rows that rise and stay below a count are at most as many
pub few_rows : (n : ℕ) (rows : List ℕ) → is_row_list n rows ≡ true → length rows ≤ n
few_rows n [] e = omega arith
few_rows n (x ∷ xs) e =
    let parts = and_parts (is_rising (x ∷ xs)) (list_all (λ r. nat_lt r n) (x ∷ xs)) e in
    let fits = room n x xs parts.0 parts.1 in
    omega arith

-- ---- whether a row is in

-- the row with the rank is compared
pub holds_compared : (xs : List ℕ) (row k number : ℕ) → is_rising xs ≡ true → k ≡ rank xs row
    → slice_get xs k ≡ Some number → nat_eq number row ≡ holds xs row
holds_compared xs row k number e ranked read = elim (cases_order number row) [
  | inl same ↦ eq-eqb number row same ∙ sym (same-held xs row number k e ranked read same)
  | inr (inl below) ↦ ne_eqb number row (λ s. omega arith) ∙ sym (other-free xs row number k e ranked read (λ s. omega arith))
  | inr (inr above) ↦ ne_eqb number row (λ s. omega arith) ∙ sym (other-free xs row number k e ranked read (λ s. omega arith))
]

-- the row of a place is compared with the number there
pub holds_place : (xs : List ℕ) (at next row : ℕ) → is_rising xs ≡ true → at ≡ rank xs row
    → next ≡ slice_index_or xs at (2 ^ 64 - 1) → row < 2 ^ 32 → nat_eq next row ≡ holds xs row
holds_place xs at next row e ranked first h = elim (cases_lt at (length xs)) [
  | inl inside ↦ holds_compared xs row at next e ranked (slice_get-get_or xs at (2 ^ 64 - 1) inside ∙ ap Some (sym first))
  | inr past ↦
      let last = get_or_past xs at (2 ^ 64 - 1) past in
      ne_eqb next row (λ equal. omega (arith, first, last, equal)) ∙ sym (past-free xs row e (omega arith))
]

-- ---- the test of rows, one after another

-- of the rows behind those below the next that may come
abbrev pub rest_rises : ℕ → ℕ → List ℕ → Bool
rest_rises n next [] = true
rest_rises n next (row ∷ rows) = nat_le next row && nat_lt row n && rest_rises n (row + 1) rows

rearranged : (a b c d l r : Bool) → (b && (d && l)) ≡ (d && r) → (a && b && (c && (d && l))) ≡ (c && (a && d && r))
rearranged a b c d l r h = grind arith

rises_from : (n row : ℕ) (rows : List ℕ)
    → (is_rising (row ∷ rows) && list_all (λ r. nat_lt r n) (row ∷ rows))
    ≡ (nat_lt row n && rest_rises n (row + 1) rows)
rises_from n row [] = refl
rises_from n row (next ∷ rows) =
    let above : nat_lt row next ≡ nat_le (row + 1) next = grind (arith, nat_tests) in
    let rest = rearranged (nat_lt row next) (is_rising (next ∷ rows)) (nat_lt row n) (nat_lt next n)
    (list_all (λ r. nat_lt r n) rows) (rest_rises n (next + 1) rows) (rises_from n next rows) in
    rest ∙ ap (λ b. nat_lt row n && (b && nat_lt next n && rest_rises n (next + 1) rows)) above

-- to rise below a count is to rise from 0 on
pub rises_first : (n : ℕ) (rows : List ℕ) → is_row_list n rows ≡ rest_rises n 0 rows
rises_first n [] = refl
rises_first n (row ∷ rows) =
    rises_from n row rows
    ∙ ap (λ b. b && nat_lt row n && rest_rises n (row + 1) rows) (sym (le-leb 0 row (omega arith)))

-- the row at a place is let through
pub record IsTaken (n next : ℕ) (rows : List ℕ) (at row : ℕ) : Type 0 where
  pub read : slice_get rows at ≡ Some row
  pub below : row < n
  pub rest : rest_rises n next (drop at rows) ≡ rest_rises n (row + 1) (drop (at + 1) rows)

-- one more row
module _ (n next : ℕ) (rows : List ℕ) (at : ℕ) (within : at < length rows) where
  abbrev here : ℕ
  here = get_or rows at 0

  abbrev fits : Bool
  fits = nat_le next here && nat_lt here n

  behind : rest_rises n next (drop at rows) ≡ (fits && rest_rises n (here + 1) (drop (at + 1) rows))
  behind = ap (rest_rises n next) (drop_more rows at 0 within)

  pub rises_refused : None ≡ only_if fits here → rest_rises n next (drop at rows) ≡ false
  rises_refused e = behind ∙ ap (λ b. b && rest_rises n (here + 1) (drop (at + 1) rows)) (only_if-none fits here e)

  -- a row that is let through stands in the list at its place, below the count, and the rest must
  -- rise behind it
  pub rises_taken : (row : ℕ) → Some row ≡ only_if fits here → IsTaken n next rows at row
  rises_taken row e =
      let told = only_if-some fits row here e in
      let below = ltb-true here n (and_parts (nat_le next here) (nat_lt here n) told.0).1 in
      record {
        read = slice_get-get_or rows at 0 within ∙ ap Some (sym told.1);
        below = omega (arith, told.1, below);
        rest =
            behind ∙ ap (λ b. b && rest_rises n (here + 1) (drop (at + 1) rows)) told.0
            ∙ ap (λ r. rest_rises n (r + 1) (drop (at + 1) rows)) (sym told.1);
      }
