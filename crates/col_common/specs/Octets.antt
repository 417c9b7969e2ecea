-- Lists of octets that spell an address.
use Rattle.std.specs.Prelude.{◌≡◌, ℕ, List, length}
use Rattle.col_common.specs.Ascending.{AreBelow}

-- 16 octets
pub record IsOctets (octets : List ℕ) : Type 0 where
  pub count : length octets ≡ 16
  pub each : AreBelow 256 octets
