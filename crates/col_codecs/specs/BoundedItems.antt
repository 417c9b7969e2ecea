-- Ids by the numbers at them.
use Rattle.std.specs.Prelude.{ℕ, List, filter}
use Rattle.std.specs.Int.{is_in_range}
use Rattle.std.specs.List.{range_with_len}

-- which of the n ids from a on have a number from low to high, ascending
unfoldable pub ids_by : (ℕ → ℕ) → ℕ → ℕ → ℕ → ℕ → List ℕ
ids_by f low high a n = filter (λ id. is_in_range low high (f id)) (range_with_len a n)
