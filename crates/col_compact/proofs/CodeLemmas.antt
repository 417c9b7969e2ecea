-- A walk over ranges that counts codes and places.
use Rattle.std.proofs.Common.{ℕ, ◌+◌, ◌-◌, List, [], ◌∷◌, if◌then◌else◌, Result, Ok, Err}
use Rattle.std.specs.Prelude.{nat_lt, nat_le}
use Rattle.col_model.specs.AddressList.{range_size}

-- The code of a number in ranges whose codes begin with `code`; else the place of the range it
-- would go before, counted from `place`.
unfoldable pub code_from : ℕ → ℕ → List (ℕ × ℕ) → ℕ → Result ℕ ℕ
code_from code place [] x = Err place
code_from code place (r ∷ rs) x =
    let later = code_from (code + range_size r) (place + 1) rs x in
    if nat_lt x r.0 then Err place else if nat_le x r.1 then Ok (code + (x - r.0)) else later

-- the same in a whole space
abbrev pub code_at : List (ℕ × ℕ) → ℕ → Result ℕ ℕ
code_at rs x = code_from 1 0 rs x
