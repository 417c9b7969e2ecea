-- Lists that are written under Bitpacked alone, and read in place.
use Rattle.std.proofs.Common.{◌≡◌, ℕ, ◌<◌, ◌^◌, List, [], ◌∷◌, length, map, Some, None, Result, Ok, Err, IfOk, IfErr, refl, sym, subst}
use Rattle.std.specs.Option.{IfNone}
use Rattle.std.proofs.lemmas.Bool.{lt-leb}
use Rattle.std.proofs.lemmas.List.{map-id}
use Rattle.std.proofs.lemmas.Option.{same_Some, none-some}
use Rattle.col_common.specs.declared.error.ColumnarError.{ColumnarError}
use Rattle.col_common.specs.declared.error.ColumnarError.TheVariants as refusals
use Rattle.col_common.specs.Decoding.{Decodes, Refuses}
use Rattle.col_model.specs.Codecs.{chosen_codec}
use Rattle.col_numbers.specs.Written.{list_refusal}
use Rattle.col_numbers.specs.declared.u64_values.U64Values.{U64Values}
use Rattle.col_numbers.specs.Readers.{list_of}

-- Bitpacked applies to each list
bitpacked_applies : (xs : List ℕ) → length xs < 2 ^ 32 → list_refusal xs (0 ∷ []) ≡ None
unfolding chosen_codec
bitpacked_applies xs h = rw (lt-leb (2 ^ 32) (length xs) h) refl

-- what was written is read
decoded : (r : Result U64Values ColumnarError) (xs : List ℕ) → length xs < 2 ^ 32
    → IfNone (list_refusal (map (λ (n : ℕ). n) xs) (0 ∷ [])) (Decodes list_of r (Some (map (λ (n : ℕ). n) xs)))
    → Decodes list_of r (Some xs)
decoded r xs h e =
    let f = rw (map-id xs) at e in
    subst (λ o. IfNone o (Decodes list_of r (Some xs))) (bitpacked_applies xs h) f

-- the list is the one that was given
pub loaded-ok : (r : Result U64Values ColumnarError) (xs : List ℕ) → length xs < 2 ^ 32
    → IfNone (list_refusal (map (λ (n : ℕ). n) xs) (0 ∷ [])) (Decodes list_of r (Some (map (λ (n : ℕ). n) xs)))
    → IfOk r (λ values. list_of values ≡ xs)
loaded-ok r xs h e = go r (decoded r xs h e)
  where
    go : (r : Result U64Values ColumnarError) → Decodes list_of r (Some xs) → IfOk r (λ values. list_of values ≡ xs)
    go (Ok values) d = sym (same_Some xs (list_of values) d)
    go (Err e) d = tt

-- only memory may be wanting
pub loaded-err : (r : Result U64Values ColumnarError) (xs : List ℕ) → length xs < 2 ^ 32
    → IfNone (list_refusal (map (λ (n : ℕ). n) xs) (0 ∷ [])) (Decodes list_of r (Some (map (λ (n : ℕ). n) xs)))
    → IfErr r (λ e. e ≡ refusals.OutOfMemory)
loaded-err r xs h e = go r (decoded r xs h e)
  where
    from : (e : ColumnarError) → Refuses e (Some xs) → e ≡ refusals.OutOfMemory
    from refusals.OutOfMemory d = refl
    from refusals.InvalidData d = absurd (none-some xs (sym d))
    from _ d = absurd d

    go : (r : Result U64Values ColumnarError) → Decodes list_of r (Some xs) → IfErr r (λ e. e ≡ refusals.OutOfMemory)
    go (Ok values) d = tt
    go (Err e) d = from e d
