-- Texts that are JSON or not.
use Rattle.std.proofs.Common.{◌≡◌, ◌≢◌, ℕ, Bool, true, false, List, Option, Some, None, refl, sym, ap, ◌∙◌, option_and_then}
use Rattle.std.specs.Str.{is_utf8, IsUtf8}
use Rattle.std.proofs.lemmas.Str.{IsUtf8-from_is_utf8, is_utf8-from_IsUtf8}
use Rattle.json.specs.Json.{Json, document}
use Rattle.json.specs.declared.error.Error.{Error}
use Rattle.json.specs.declared.error.Error.TheVariants.{Invalid, OutOfMemory, TooLong, DuplicateKey}
use Rattle.col_common.specs.Reading.{only_if}

-- the value of a text
abbrev pub parsed : List ℕ → Bool → Option Json
parsed s b = option_and_then document (only_if b s)

pub is_parsed : (s : List ℕ) (j : Json) → IsUtf8 s → document s ≡ Some j → Some j ≡ parsed s (is_utf8 s)
is_parsed s j utf8 is = sym (ap (parsed s) (is_utf8-from_IsUtf8 s utf8) ∙ is)

-- a text that isn't one, where neither memory was wanting nor another cause is
pub none_parsed : (s : List ℕ) (e : Error) → (e ≡ Invalid → IsUtf8 s → document s ≡ None) → e ≢ OutOfMemory → e ≢ TooLong → e ≢ DuplicateKey
    → None ≡ parsed s (is_utf8 s)
none_parsed s Invalid none m t d = by (is_utf8 s) refl
  where
    by : (b : Bool) → is_utf8 s ≡ b → None ≡ parsed s b
    by true is = sym (none refl (IsUtf8-from_is_utf8 s is))
    by false is = refl
none_parsed s OutOfMemory none m t d = absurd (m refl)
none_parsed s TooLong none m t d = absurd (t refl)
none_parsed s DuplicateKey none m t d = absurd (d refl)
