-- Lines of a report on a set.
use Rattle.std.proofs.Common.{◌≡◌, ℕ, false, List, [], ◌∷◌, map, codes, refl}
use Rattle.serde_json.specs.Data.{string}
use Rattle.serde_json.specs.Written.{has_float}
use Rattle.col_program.specs.Report.{count_data, list_data}

-- no number of an array of counts has a point
pub counts-whole : (ns : List ℕ) → has_float (list_data (map count_data ns)) ≡ false
counts-whole [] = refl
counts-whole (n ∷ ns) = counts-whole ns

-- so it is in the line of a lookup
pub found-whole : (name word ns : List ℕ)
    → has_float (list_data (string (codes "find") ∷ string name ∷ string word ∷ list_data (map count_data ns) ∷ [])) ≡ false
found-whole name word ns = rw (counts-whole ns) refl
