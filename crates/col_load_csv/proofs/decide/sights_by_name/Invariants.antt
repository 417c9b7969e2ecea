use Rattle.std.proofs.Common.{ℕ, List}
use Rattle.col_load_csv.specs.Sights.{AreSeen, sight_under}
use Rattle.col_load_csv.proofs.KindLemmas.{HasMerged}
use Rattle.col_load_csv.proofs.decide.sights_by_name.Given as goal

-- the columns before the place were added
abbrev pub invariant-loop-place : goal.invariant-loop-place
invariant-loop-place l =
    (rows : List (List (List ℕ))) → AreSeen rows l.seen → (name : List ℕ)
    → HasMerged name rows l.columns (sight_under l.sights name) l.place
