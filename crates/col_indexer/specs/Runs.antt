-- Runs of rows, as they are found one behind another.
use Rattle.std.specs.Prelude.{◌≡◌, ℕ, ◌+◌, ◌^◌, ◌<◌, ◌≤◌, ◌==◌, Bool, false, List, [], ◌∷◌, ◌++◌, length, zip, take, slice_index, if◌then◌else◌}
use Rattle.std.specs.List.{range_with_len, AllByRecursion}
use Rattle.col_model.specs.Index.{runs_of}

-- a run behind runs: it makes the last one longer where it begins at that one's end
unfoldable pub then_run : List (ℕ × ℕ) → ℕ × ℕ → List (ℕ × ℕ)
then_run [] run = run ∷ []
then_run (r ∷ []) run =
    if r.0 + r.1 == run.0 then (r.0, r.1 + run.1) ∷ [] else r ∷ run ∷ []
then_run (r ∷ q ∷ rs) run = r ∷ then_run (q ∷ rs) run

-- the last of runs ends at a row
unfoldable pub ends_at : List (ℕ × ℕ) → ℕ → Bool
ends_at [] row = false
ends_at (r ∷ []) row = r.0 + r.1 == row
ends_at (r ∷ q ∷ rs) row = ends_at (q ∷ rs) row

-- runs end below a bound
abbrev pub EndBelow : ℕ → List (ℕ × ℕ) → Type 0
EndBelow bound runs = AllByRecursion (λ r. r.0 + r.1 < bound) runs

-- runs as two lists, of their starts and of their lengths, which end where 32 bits count
pub record AreRunLists (starts lengths : List ℕ) : Type 0 where
  pub same : length starts ≡ length lengths
  pub ends : EndBelow (2 ^ 32) (zip starts lengths)

-- at a place of rows so many follow one another
pub record IsRunAt (rows : List ℕ) (at len : ℕ) : Type 0 where
  pub some : 0 < len
  pub within : at + len ≤ length rows
  pub follow : take (at + len) rows ≡ take at rows ++ range_with_len (slice_index rows at) len
  pub below : slice_index rows at + len < 2 ^ 32

-- where the old runs are those of rows, the new ones are those of these and more behind them
abbrev pub HaveMore : List (ℕ × ℕ) → List (ℕ × ℕ) → List ℕ → Type 0
HaveMore old new more = (rows : List ℕ) → old ≡ runs_of rows → new ≡ runs_of (rows ++ more)
