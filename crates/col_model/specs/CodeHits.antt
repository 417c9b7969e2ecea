-- From a number to its code among ranges. States docs/FORMAT.md, section 5.
use Rattle.std.specs.Prelude.{ℕ, ◌+◌, ◌-◌, nat_lt, nat_le, List, [], ◌∷◌, count_by, if◌then◌else◌}
use Rattle.col_model.specs.AddressList.{range_size}

-- the code of a number, or the code of the next greater number that has one, or none is greater
pub data Hit : Type 0 where
  exact : ℕ → Hit
  next : ℕ → Hit
  after_last : Hit

-- the hit where so many codes stand before the ranges
unfoldable pub hit_from : ℕ → List (ℕ × ℕ) → ℕ → Hit
hit_from before [] n = after_last
hit_from before (r ∷ rs) n =
    let later = hit_from (before + range_size r) rs n in
    if nat_lt n r.0 then next (before + 1)
    else if nat_le n r.1 then exact (before + (n - r.0) + 1)
    else later

-- the hit of a number among rising ranges
abbrev pub code_hit : List (ℕ × ℕ) → ℕ → Hit
code_hit ranges n = hit_from 0 ranges n

-- how many ranges end before a number: where it has no code, the place of the next range
abbrev pub ranges_before : List (ℕ × ℕ) → ℕ → ℕ
ranges_before ranges n = count_by (λ r. nat_lt r.1 n) ranges
