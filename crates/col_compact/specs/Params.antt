-- What stands behind the codes of a list of addresses.
use Rattle.std.specs.Prelude.{◌≡◌, ℕ, true, List, Option}
use Rattle.col_common.specs.Reading.{◌>>=◌, only_if, front, byte_at}
use Rattle.col_common.specs.VInt.{vint_u128}
use Rattle.col_model.specs.AddressList.{AddressFooter, are_zeros, are_bounds, first_start, last_end}

-- what the footer says before its ranges
pub record Head : Type 0 where
  pub least : ℕ
  pub greatest : ℕ
  pub count : ℕ
  pub code_width : ℕ

-- the bytes behind eight that are 0
abbrev pub behind_flags : List ℕ → Option (List ℕ)
behind_flags bytes = front 8 bytes >>= λ p. only_if (are_zeros p.0) p.1

-- eight zero bytes, the bounds and the count, which fit each other, and a width; and the bytes
-- behind them
unfoldable pub head_at : List ℕ → Option (Head × List ℕ)
head_at bytes = do
  rest ← behind_flags bytes
  least ← vint_u128 rest
  greatest ← vint_u128 least.1
  count ← vint_u128 greatest.1
  w ← byte_at count.1
  only_if (are_bounds least.0 greatest.0 count.0)
      (record { least = least.0; greatest = greatest.0; count = count.0; code_width = w.0 }, w.1)

-- the footer of ranges and a count
abbrev pub footer_of : List (ℕ × ℕ) → ℕ → ℕ → AddressFooter
footer_of rs count w =
    record {
      least = first_start rs;
      greatest = last_end rs;
      count = count;
      code_width = w;
      ranges = rs;
    }

-- the count fits the bounds that the ranges have
abbrev pub CountFits : List (ℕ × ℕ) → ℕ → Type 0
CountFits rs count = are_bounds (first_start rs) (last_end rs) count ≡ true
