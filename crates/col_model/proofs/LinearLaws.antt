-- Under Linear a list is read back.
use Rattle.std.proofs.Common.{◌≡◌, ℕ, ◌+◌, ◌^◌, ◌<◌, List, [], ◌∷◌, ◌++◌, map, length, Some, refl, ap, ◌∙◌, arith}
use Rattle.std.specs.List.{enumerate_from}
use Rattle.std.proofs.lemmas.List.{length-map}
use Rattle.std.proofs.lemmas.List.FromFn.{length-enumerate_from}
use Rattle.col_common.specs.Ascending.{AreBelow}
use Rattle.col_bits.specs.Packed.{packed}
use Rattle.col_bits.proofs.PackedLemmas.{packed-packed_bytes}
use Rattle.col_model.specs.Stats.{Stats, stats_of, stats_at, stats_bytes}
use Rattle.col_model.specs.U64List.{LinearParams, above_line, linear_values, values_by, values64}
use Rattle.col_model.specs.Codecs.{params_bytes, offset_from, offsets_from, packed_offsets, linear_line, linear_body}
use Rattle.col_model.specs.Laws.{LinearIsReadBack}
use Rattle.col_model.proofs.U64ListLaws.{stats_at-stats_bytes, stats_of-describes, are_possible-described, same_stats-self, steps-bound}
use Rattle.col_model.proofs.TrainingLaws.{above_line-offset_from}
use Rattle.col_model.proofs.CodecLaws.{IsWritable, params_at-params_bytes, linear_line-writable, linear_offsets-fit}

-- each offset of a list fits the line's width
abbrev pub OffsetsFit : LinearParams → List ℕ → Type 0
OffsetsFit l xs = AreBelow (2 ^ l.offset_width) (offsets_from l xs)

-- items are put back from their offsets, from position k on
above-offsets_from : (l : LinearParams) (k : ℕ) (xs : List ℕ) → AreBelow (2 ^ 64) xs
    → map (above_line l) (enumerate_from k (map (offset_from l) (enumerate_from k xs))) ≡ xs
above-offsets_from l k [] all = refl
above-offsets_from l k (x ∷ xs) all = rw (above_line-offset_from l k x all.0) (ap (λ r. x ∷ r) (above-offsets_from l (k + 1) xs all.1))

-- items below 2 ^ 64 are their offsets from a line, taken above it again
pub items-above_line : (l : LinearParams) (xs : List ℕ) → AreBelow (2 ^ 64) xs
    → map (above_line l) (enumerate_from 0 (offsets_from l xs)) ≡ xs
items-above_line l xs all = above-offsets_from l 0 xs all

-- a line has one offset for each item
pub length-offsets_from : (l : LinearParams) (xs : List ℕ) → length (offsets_from l xs) ≡ length xs
length-offsets_from l xs = length-map (enumerate_from 0 xs) (offset_from l) ∙ length-enumerate_from 0 xs

-- packed offsets are read back
pub packed-packed_offsets : (l : LinearParams) (xs : List ℕ) → OffsetsFit l xs
    → packed (packed_offsets l xs) l.offset_width (length xs) ≡ Some (offsets_from l xs)
packed-packed_offsets l xs fit = rw (← length-offsets_from l xs) (packed-packed_bytes l.offset_width (offsets_from l xs) fit)

-- a line and offsets from it are read back
pub linear_values-back : (s : Stats) (l : LinearParams) (xs : List ℕ) → s.count ≡ length xs → IsWritable l
    → OffsetsFit l xs → AreBelow (2 ^ 64) xs → linear_values s (params_bytes l ++ packed_offsets l xs) ≡ Some xs
unfolding linear_values
linear_values-back s l xs count writable fit all =
    rw (params_at-params_bytes l (packed_offsets l xs) writable, count, packed-packed_offsets l xs fit)
    (ap Some (items-above_line l xs all))

-- the statistics of a list are read back, whatever follows
pub stats_at-own : (xs rest : List ℕ) → AreBelow (2 ^ 64) xs → length xs < 2 ^ 32
    → stats_at (stats_bytes (stats_of xs) ++ rest) ≡ Some (stats_of xs, rest)
stats_at-own xs rest all len =
    let d = stats_of-describes xs all in
    stats_at-stats_bytes (stats_of xs) rest (omega (arith, d.fits, d.top)) d.divisor_fits
    (steps-bound xs (stats_of xs) d) (omega (arith, d.count, len)) (are_possible-described xs all len) d.top

-- a list is read back where its items are, behind its statistics
pub values64-behind_stats : (codec : ℕ) (xs body : List ℕ) → AreBelow (2 ^ 64) xs → length xs < 2 ^ 32
    → values_by codec (stats_of xs) body ≡ Some xs
    → values64 (codec ∷ (stats_bytes (stats_of xs) ++ body)) ≡ Some xs
unfolding values64
values64-behind_stats codec xs body all len e = rw (stats_at-own xs body all len, e, same_stats-self (stats_of xs)) refl

-- a list is read back from its bytes under Linear
pub values64-linear : LinearIsReadBack
unfolding linear_body
values64-linear xs all len =
    let l = linear_line xs in
    values64-behind_stats 1 xs (params_bytes l ++ packed_offsets l xs) all len
    (linear_values-back (stats_of xs) l xs (stats_of-describes xs all).count (linear_line-writable xs) (linear_offsets-fit xs) all)
