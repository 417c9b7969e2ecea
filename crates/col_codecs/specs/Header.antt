-- What stands behind a codec's code and the statistics.
use Rattle.std.specs.Prelude.{ℕ, List, Option}
use Rattle.col_common.specs.Reading.{◌>>=◌, only_if}
use Rattle.col_model.specs.Stats.{Stats, stats_of, same_stats}
use Rattle.col_model.specs.U64List.{values_by}

-- a list, where statistics are its own
abbrev pub checked : Stats → List ℕ → Option (List ℕ)
checked s xs = only_if (same_stats (stats_of xs) s) xs

-- the list behind statistics under a codec, by its code; the statistics are those of the list
unfoldable pub list_by : ℕ → Stats → List ℕ → Option (List ℕ)
list_by codec s bytes = values_by codec s bytes >>= λ xs. only_if (same_stats (stats_of xs) s) xs
