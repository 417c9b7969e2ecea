-- The key of the value at a place.
use Rattle.std.proofs.Common.{◌≡◌, ◌<◌, ℕ, zero, suc, ◌+◌, List, [], ◌∷◌, length, get_or, Some, refl, ◌∙◌, ap, arith}
use Rattle.std.specs.Prelude.{slice_get, unwrap_or}
use Rattle.std.proofs.lemmas.Option.{slice_get-get_or}
use Rattle.std.proofs.lemmas.List.{length-map}
use Rattle.col_model.specs.ColumnType.{ColumnType}
use Rattle.col_writer_columns.specs.Sorting.{number_key, number_keys, time_keys, text_keys}
use Rattle.col_writer_columns.proofs.TypeListLemmas.{slice_get-map}

-- numbers
pub length-number_keys : (ts : List ColumnType) (cs : List ℕ) → length ts ≡ length cs → length (number_keys ts cs) ≡ length cs
unfolding number_keys
length-number_keys [] [] e = refl
length-number_keys [] (c ∷ cs) e = absurd (omega arith)
length-number_keys (t ∷ ts) [] e = absurd (omega arith)
length-number_keys (t ∷ ts) (c ∷ cs) e = let same : length ts ≡ length cs = omega arith in ap suc (length-number_keys ts cs same)

-- the key of a number is that of its type and its code
pub number-place : (ts : List ColumnType) (cs : List ℕ) (k : ℕ) (t : ColumnType) (d : ℕ) → length ts ≡ length cs
    → k < length cs → slice_get ts k ≡ Some t
    → slice_get (number_keys ts cs) k ≡ Some (number_key t (get_or cs k d))
unfolding number_keys
number-place ts [] k t d e h at = absurd (omega arith)
number-place [] (c ∷ cs) k t d e h at = absurd (omega arith)
number-place (s ∷ ts) (c ∷ cs) zero t d e h at = let same : s ≡ t = cc in ap (λ r. Some (number_key r c)) same
number-place (s ∷ ts) (c ∷ cs) (suc k) t d e h at = number-place ts cs k t d (omega arith) (omega arith) at

-- points in time
pub length-time_keys : (cs : List ℕ) → length (time_keys cs) ≡ length cs
unfolding time_keys
length-time_keys cs = length-map cs (λ c. c + 1)

-- the key of a point in time is one above its code
pub time-place : (cs : List ℕ) (k d : ℕ) → k < length cs → slice_get (time_keys cs) k ≡ Some (get_or cs k d + 1)
unfolding time_keys
time-place cs k d h = slice_get-map (λ c. c + 1) cs k (get_or cs k d) (slice_get-get_or cs k d h)

-- texts
pub length-text_keys : (ords ids : List ℕ) → length (text_keys ords ids) ≡ length ids
unfolding text_keys
length-text_keys ords ids = length-map ids (λ id. unwrap_or (slice_get ords id) 0 + 1)

-- the key of a text is one above its term's ordinal
pub text-place : (ords ids : List ℕ) (k d o : ℕ) → k < length ids → slice_get ords (get_or ids k d) ≡ Some o
    → slice_get (text_keys ords ids) k ≡ Some (o + 1)
unfolding text_keys
text-place ords ids k d o h at =
    slice_get-map (λ id. unwrap_or (slice_get ords id) 0 + 1) ids k (get_or ids k d) (slice_get-get_or ids k d h)
    ∙ ap (λ r. Some (unwrap_or r 0 + 1)) at
