-- Runs by the ranks of their rows.
use Rattle.std.proofs.Common.{◌≡◌, ℕ, ◌+◌, ◌-◌, ◌^◌, ◌<◌, ◌≤◌, List, ◌∷◌, drop, length, get_or, slice_get, Some, sym, ap, ◌∙◌, arith}
use Rattle.std.proofs.lemmas.List.{drop_more}
use Rattle.std.proofs.lemmas.Option.{get_or_from_slice_get, slice_get_within, same_Some}
use Rattle.col_common.specs.Ascending.{differences}
use Rattle.col_model.specs.Index.{RowSet, run_rows}
use Rattle.col_model.specs.Positions.{rank}
use Rattle.col_index.specs.Runs.{AreSummedRuns, rows_of_runs}
use Rattle.col_index.specs.RunPlaces.{Follow, HasRank, IsRunOf}
use Rattle.col_index.specs.Sets.{AreRows}
use Rattle.col_index.specs.Walked.{IsRanked32}
use Rattle.col_index.specs.declared.run_places.Run.{Run}
use Rattle.col_index.proofs.RankLaws.{rows_rise, rank-at}
use Rattle.col_index.proofs.SetLemmas.{few_rows, row_below}
use Rattle.col_index.proofs.RunHeldLemmas.{summed_rows, row_selected}

-- a run by its number, where it has the row of a rank
module _ (s : RowSet) (before : List ℕ) (r : AreSummedRuns s before) (small : s.num_rows < 2 ^ 32) (k rank : ℕ) (run : Run)
    (within : k < length s.rows) (st : get_or s.rows k 0 ≡ run.start) (be : get_or before k 0 ≡ run.before)
    (en : get_or before (k + 1) 0 ≡ run.before + run.len)
    (low : get_or before k 0 ≤ rank) (high : rank < get_or before (k + 1) 0) where
  own : Follow (run_rows s.rows (differences before)) run.start run.before (run.before + run.len)
  own j from upto =
      row_selected s before r k j run.start run.before (run.before + run.len) within (sym st) (sym be) (sym en) from upto

  -- its rows are those of its ranks
  pub run_own : IsRunOf (run_rows s.rows (differences before)) run
  run_own =
      let last = run.before + run.len - 1 in
      let read = own last (omega (arith, be, en, low, high)) (omega (arith, be, en, low, high)) in
      let inside = slice_get_within (run_rows s.rows (differences before)) last (run.start + (last - run.before)) read in
      let below = row_below (rows_of_runs s before) last (run.start + (last - run.before)) (summed_rows s before r) read in
      record {
        fits = omega (arith, small, inside, few_rows s.num_rows (run_rows s.rows (differences before)) (summed_rows s before r));
        reach = omega (arith, small, below, be, en, low, high);
        follow = own;
      }

-- a run has the ranks up to those behind it
pub run_rank : (run : Run) (from upto rank : ℕ) → from ≡ run.before → upto ≡ run.before + run.len → from ≤ rank → rank < upto
    → HasRank run rank
run_rank run from upto rank be en low high = record { from = omega (arith, be, low); upto = omega (arith, en, high) }

-- the row of a rank
pub run_row : (rows : List ℕ) (run : Run) (rank row : ℕ) → IsRunOf rows run → HasRank run rank → row ≡ run.start + (rank - run.before)
    → slice_get rows rank ≡ Some row
run_row rows run rank row own h e = own.follow rank h.from h.upto ∙ ap Some (sym e)

-- so many rows stand before it
pub run_ranked : (s : RowSet) (run : Run) (rank_of row : ℕ) → AreRows s → IsRunOf s.rows run → HasRank run rank_of
    → row ≡ run.start + (rank_of - run.before) → IsRanked32 s.rows row rank_of
run_ranked s run rank_of row a own h e =
    let read = run_row s.rows run rank_of row own h e in
    record {
      ranked =
          ap (rank s.rows) (sym (get_or_from_slice_get s.rows rank_of row 0 read))
          ∙ rank-at s.rows rank_of (rows_rise s a) (slice_get_within s.rows rank_of row read);
      small = omega (arith, own.reach, h.from, h.upto, e);
    }

-- from it on the rows of the run follow one another
pub run_follows : (rows : List ℕ) (run : Run) (rank row upto : ℕ) → IsRunOf rows run → HasRank run rank
    → row ≡ run.start + (rank - run.before) → upto ≡ run.before + run.len → Follow rows row rank upto
run_follows rows run rank row upto own h e u j from to =
    own.follow j (omega (arith, h.from, from)) (omega (arith, to, u)) ∙ ap Some (omega (arith, h.from, from, e))

-- behind the first of rows that follow one another the others do
pub follow_behind : (rows : List ℕ) (row place upto : ℕ) → Follow rows row place upto → Follow rows (row + 1) (place + 1) upto
follow_behind rows row place upto f j from to = f j (omega (arith, from)) to ∙ ap Some (omega (arith, from))

-- the first of them has their rank
pub follow_first : (rows : List ℕ) (row place upto : ℕ) → Follow rows row place upto → place < upto → slice_get rows place ≡ Some row
follow_first rows row place upto f h = f place (omega arith) h ∙ ap Some (omega arith)

-- the row of a rank is the first of those from it on
pub drop_row : (rows : List ℕ) (place row : ℕ) → slice_get rows place ≡ Some row → drop place rows ≡ row ∷ drop (place + 1) rows
drop_row rows place row e =
    drop_more rows place 0 (slice_get_within rows place row e)
    ∙ ap (λ r. r ∷ drop (place + 1) rows) (get_or_from_slice_get rows place row 0 e)

-- behind a row that is found, as many rows follow one another
pub follow_found : (rows : List ℕ) (from row place upto : ℕ) → Follow rows from place upto → slice_get rows place ≡ Some row
    → Follow rows (row + 1) (place + 1) upto
follow_found rows from row place upto f e j low high =
    let first = follow_first rows from place upto f (omega (arith, low, high)) in
    let same : from ≡ row = same_Some from row (sym first ∙ e) in
    f j (omega (arith, low)) high ∙ ap Some (omega (arith, low, same))
