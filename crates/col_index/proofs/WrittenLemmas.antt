-- A turn of the walk over positions where the row is written always, and kept where it is another.
use mir.Val.{bool_byte}
use Rattle.std.proofs.Common.{◌≡◌, ℕ, ◌+◌, ◌-◌, ◌<◌, ◌≤◌, ◌==◌, not, true, false, Bool, List, [], ◌∷◌, ◌++◌, length, take, set, get_or, slice_get, Some, sym, ap, subst, ◌∙◌, inl, inr, arith}
use Rattle.std.proofs.lemmas.Bool.{cases_eq, eq-eqb, ne_eqb}
use Rattle.std.proofs.lemmas.List.{take-set-le, drop-set-lt, length-set}
use Rattle.std.proofs.lemmas.Option.{get_or_from_slice_get}
use Rattle.col_model.specs.Index.{RowOffsets, offset_counts}
use Rattle.col_model.specs.Positions.{rank, rows_at}
use Rattle.col_index.specs.Windows.{IsWindow}
use Rattle.col_index.specs.declared.windows.Window.{Window}
use Rattle.col_index.proofs.CountLaws.{offset_starts}
use Rattle.col_index.proofs.InRowLemmas.{some-started, end-unstarted}
use Rattle.col_index.proofs.KeptLemmas.{IsPosition, position-below, IsSelected, selected-same, selected-next}
use Rattle.col_index.proofs.RowsAtLemmas.{after, select-same, select-next}

-- what a window's table says of a position in it
pub window_started : (starts inner : List ℕ) (w : Window) (table : List ℕ) (p q : ℕ) → inner ≡ starts
    → IsWindow inner w table → w.position ≤ p → p < w.position + w.len → p ≡ q
    → get_or table (p - w.position) 0 ≡ rank starts (q + 1)
window_started starts inner w table p q s i from upto e =
    let here : w.position + 1 + (p - w.position) ≡ q + 1 = omega arith in
    i.counts (p - w.position) (omega arith) ∙ ap (rank inner) here ∙ ap (λ xs. rank xs (q + 1)) s

-- what stands behind the kept rows may be overwritten
written : (counts ps xs : List ℕ) (kept at row : ℕ) → kept ≤ at → IsSelected counts ps xs kept (at + 1)
    → IsSelected counts ps (set xs kept row) kept (at + 1)
written counts ps xs kept at row few s = record {
  long = length-set xs kept row ∙ s.long;
  few = s.few;
  found = take-set-le kept xs kept row (omega arith) ∙ s.found;
  ahead = drop-set-lt (at + 1) xs kept row (omega (arith, few)) ∙ s.ahead;
}

module _ (o : RowOffsets) (ps : List ℕ) (at : ℕ) (here : IsPosition o ps at) where
  -- how many start offsets are at or before a position
  abbrev pub started_at : ℕ
  started_at = rank o.starts (get_or ps at 0 + 1)

  -- there is one
  pub started-some : 1 ≤ started_at
  started-some = let some = some-started o here.offsets (get_or ps at 0) in omega (arith, some)

  -- and one more that isn't
  pub started-inside : started_at ≤ length o.set.rows
  started-inside = end-unstarted o here.offsets (get_or ps at 0) (position-below o ps at here)

  -- so the row of the last of them is there
  pub started-fits : (started : ℕ) → started ≡ started_at → started - 1 < length o.set.rows
  started-fits started e = omega (arith, started-some, started-inside)

  -- there are more start offsets than those at or before the position
  pub started-listed : started_at < length o.starts
  started-listed = let long = (offset_starts o here.offsets).long in omega (arith, started-inside)

  module _ (xs : List ℕ) (kept before started row : ℕ) (s : IsSelected (offset_counts o) ps xs kept at)
      (b : before ≡ rank o.starts (after at ps)) (r : started ≡ started_at)
      (read : slice_get o.set.rows (started - 1) ≡ Some row) where
    -- the row of the position before
    row-same : started ≡ before → IsSelected (offset_counts o) ps (set xs kept row) kept (at + 1)
    row-same q =
        let same = select-same o here.offsets ps at here.rising here.within (position-below o ps at here) (sym r ∙ q ∙ b) in
        written (offset_counts o) ps xs kept at row s.few (selected-same (offset_counts o) ps xs kept at s same)

    -- another row
    row-next : (started ≡ before → ⊥) → IsSelected (offset_counts o) ps (set xs kept row) (kept + 1) (at + 1)
    row-next n =
        let found : get_or o.set.rows (rank o.starts (get_or ps at 0 + 1) - 1) 0 ≡ row =
        ap (λ k. get_or o.set.rows (k - 1) 0) (sym r)
        ∙ get_or_from_slice_get o.set.rows (started - 1) row 0 read in
        let next = select-next o here.offsets ps at here.rising here.within (position-below o ps at here) (λ q. n (r ∙ q ∙ sym b)) in
        let long : at < length xs = omega (arith, s.long, here.within) in
        selected-next (offset_counts o) ps xs kept at s row long (next ∙ ap (λ x. rows_at (offset_counts o) (take at ps) ++ x ∷ []) found)

    -- either
    pub row-written : (is_new : Bool) → is_new ≡ not (started == before)
        → IsSelected (offset_counts o) ps (set xs kept row) (kept + bool_byte is_new) (at + 1)
    row-written is_new q = elim (cases_eq started before) [
      | inl h ↦
          let old : is_new ≡ false = q ∙ ap not (eq-eqb started before h) in
          let none : kept ≡ kept + bool_byte false = omega arith in
          subst (λ t. IsSelected (offset_counts o) ps (set xs kept row) (kept + bool_byte t) (at + 1)) (sym old)
          (subst (λ n. IsSelected (offset_counts o) ps (set xs kept row) n (at + 1)) none (row-same h))
      | inr h ↦
          let new : is_new ≡ true = q ∙ ap not (ne_eqb started before h) in
          subst (λ t. IsSelected (offset_counts o) ps (set xs kept row) (kept + bool_byte t) (at + 1)) (sym new) (row-next h)
    ]
