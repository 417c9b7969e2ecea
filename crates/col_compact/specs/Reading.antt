-- Ranges that are read one after another, each tested where it stands. What they spell together is
-- `ranges_at` of the list of addresses.
use Rattle.std.specs.Prelude.{ℕ, zero, suc, ◌+◌, ◌^◌, ◌&&◌, nat_lt, nat_le, List, [], ◌∷◌, Option, Some}
use Rattle.col_common.specs.Reading.{◌>>=◌, only_if}
use Rattle.col_model.specs.AddressList.{pair_at, range_size}

-- The range at the front, behind one that ended at `before`, and the bytes behind it: it starts at
-- least `apart` above, its numbers are below 2 ^ 128, and with `codes` others they number less than
-- 2 ^ 32.
unfoldable pub range_at : ℕ → ℕ → ℕ → List ℕ → Option ((ℕ × ℕ) × List ℕ)
range_at before apart codes bytes = do
  p ← pair_at bytes
  only_if (nat_le apart p.0.0 && nat_lt (before + p.0.0 + p.0.1) (2 ^ 128)
      && nat_lt (codes + p.0.1 + 1) (2 ^ 32))
      ((before + p.0.0, before + p.0.0 + p.0.1), p.1)

-- so many ranges, and the bytes behind them
unfoldable pub ranges_behind : ℕ → ℕ → ℕ → ℕ → List ℕ → Option (List (ℕ × ℕ) × List ℕ)
ranges_behind before apart codes zero bytes = Some ([], bytes)
ranges_behind before apart codes (suc n) bytes = do
  r ← range_at before apart codes bytes
  rs ← ranges_behind r.0.1 4 (codes + range_size r.0) n r.1
  Some (r.0 ∷ rs.0, rs.1)
