-- Bounds of a list as readers tell them.
use Rattle.std.proofs.Common.{◌≡◌, ℕ, List, refl}
use Rattle.col_model.specs.Stats.{stats_of, least_of, greatest_of}

-- the bounds that statistics of a list have
pub stats_of-least : (xs : List ℕ) → (stats_of xs).least ≡ least_of xs
unfolding stats_of
stats_of-least xs = refl

-- the greatest number that statistics name is the list's greatest
pub stats_of-greatest : (xs : List ℕ) → (stats_of xs).greatest ≡ greatest_of xs
unfolding stats_of
stats_of-greatest xs = refl
