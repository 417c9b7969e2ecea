-- From what `serde_json` ensures to what a script's lines say.
use Rattle.std.proofs.Common.{◌≡◌, ℕ, List, Bool, true, false, Some, None, option_and_then, IsUtf8, refl}
use Rattle.std.specs.Str.{is_utf8}
use Rattle.std.proofs.lemmas.Str.{is_utf8-from_IsUtf8, IsUtf8-from_is_utf8}
use Rattle.serde_json.specs.Data.{Data}
use Rattle.serde_json.specs.Read.{read}
use Rattle.col_common.specs.Reading.{only_if}

-- a piece that is a JSON text
pub read-some : (piece : List ℕ) (d : Data) → IsUtf8 piece → read piece ≡ Some d
    → option_and_then read (only_if (is_utf8 piece) piece) ≡ Some d
read-some piece d u e = rw (is_utf8-from_IsUtf8 piece u) e

-- a piece that is none
pub read-none : (piece : List ℕ) → (IsUtf8 piece → read piece ≡ None) → option_and_then read (only_if (is_utf8 piece) piece) ≡ None
read-none piece h = by (is_utf8 piece) refl
  where
    by : (b : Bool) → is_utf8 piece ≡ b → option_and_then read (only_if b piece) ≡ None
    by true e = h (IsUtf8-from_is_utf8 piece e)
    by false e = refl
