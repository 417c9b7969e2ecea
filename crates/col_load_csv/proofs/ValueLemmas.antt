-- Bytes as texts.
use Rattle.std.proofs.Common.{◌≡◌, ◌∙◌, ℕ, Bool, true, false, List, Some, None, refl, sym, ap}
use Rattle.std.specs.Str.{IsUtf8, is_utf8}
use Rattle.std.proofs.lemmas.Str.{IsUtf8-from_is_utf8, is_utf8-from_IsUtf8}
use Rattle.col_common.specs.Reading.{only_if}

-- the text that was read
pub text_read : (s t : List ℕ) → t ≡ s → IsUtf8 s → Some t ≡ only_if (is_utf8 s) s
text_read s t same good = ap Some same ∙ ap (λ b. only_if b s) (sym (is_utf8-from_IsUtf8 s good))

-- bytes that are none
pub text_refused : (s : List ℕ) → (IsUtf8 s → ⊥) → None ≡ only_if (is_utf8 s) s
text_refused s bad = by (is_utf8 s) refl
  where
    by : (b : Bool) → is_utf8 s ≡ b → None ≡ only_if b s
    by true is = absurd (bad (IsUtf8-from_is_utf8 s is))
    by false is = refl
