-- Under the chosen codec a list is read back.
use Rattle.std.proofs.Common.{◌≡◌, ℕ, zero, suc, ◌^◌, ◌<◌, Bool, true, false, List, [], ◌∷◌, length, Option, Some, None, refl, sym, ap, ◌∙◌, cond}
use Rattle.std.specs.List.{list_all}
use Rattle.std.proofs.lemmas.Option.{none-some, same_Some}
use Rattle.col_common.specs.Ascending.{AreBelow}
use Rattle.col_model.specs.U64List.{values64, bitpacked_bytes}
use Rattle.col_model.specs.Codecs.{bitpacked_body, codec_bytes, estimate, is_not_below, chosen_before, chosen_codec}
use Rattle.col_model.specs.Laws.{ChosenIsReadBack}
use Rattle.col_model.proofs.U64ListLaws.{values64-bitpacked_bytes}
use Rattle.col_model.proofs.LinearLaws.{values64-linear}
use Rattle.col_model.proofs.BlockLaws.{values64-blockwise}

-- the bytes under Bitpacked are those of the one form
pub codec_bytes-bitpacked : (xs : List ℕ) → codec_bytes 0 xs ≡ bitpacked_bytes xs
unfolding bitpacked_body
codec_bytes-bitpacked xs = refl

-- a codec with an estimate
abbrev HasEstimate : List ℕ → ℕ → Type 0
HasEstimate xs codec = (e : ℕ) × (estimate xs codec ≡ Some e)

-- the first of the codecs or one of the later ones
by_estimate : (xs : List ℕ) (c : ℕ) (cs : List ℕ) (codec : ℕ) (later o : Option ℕ) → estimate xs c ≡ o
    → (later ≡ Some codec → HasEstimate xs codec) → chosen_before xs c cs later o ≡ Some codec
    → HasEstimate xs codec
by_estimate xs c cs codec later None e then p = then p
by_estimate xs c cs codec later (Some n) e then p = by_test (list_all (λ d. is_not_below n (estimate xs d)) cs) p
  where
    by_test : (b : Bool) → cond b (Some c) later ≡ Some codec → HasEstimate xs codec
    by_test true q = (n, ap (estimate xs) (sym (same_Some _ _ q)) ∙ e)
    by_test false q = then q

pub chosen-estimate : (xs codecs : List ℕ) (codec : ℕ) → chosen_codec xs codecs ≡ Some codec → HasEstimate xs codec
unfolding chosen_codec
chosen-estimate xs [] codec p = absurd (none-some codec p)
chosen-estimate xs (c ∷ cs) codec p = by_estimate xs c cs codec (chosen_codec xs cs) (estimate xs c) refl (chosen-estimate xs cs codec) p

-- a list is read back under each codec that has an estimate
pub values64-estimated : (xs : List ℕ) (codec : ℕ) → HasEstimate xs codec → AreBelow (2 ^ 64) xs
    → length xs < 2 ^ 32 → values64 (codec_bytes codec xs) ≡ Some xs
values64-estimated xs zero e all len = ap values64 (codec_bytes-bitpacked xs) ∙ values64-bitpacked_bytes xs all len
values64-estimated xs (suc zero) e all len = values64-linear xs all len
values64-estimated xs (suc (suc zero)) e all len = values64-blockwise xs all len
values64-estimated xs (suc (suc (suc c))) e all len = absurd (none-some e.0 e.1)

-- a list that is written under the codec chosen of those on offer is read back from its bytes
pub values64-chosen : ChosenIsReadBack
values64-chosen codecs xs codec all len p = values64-estimated xs codec (chosen-estimate xs codecs codec p) all len
