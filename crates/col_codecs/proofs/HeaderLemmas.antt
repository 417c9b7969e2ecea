-- Statistics in front of a list.
use Rattle.std.proofs.Common.{◌≡◌, ℕ, ◌+◌, ◌-◌, ◌≤◌, List, ◌∷◌, length, drop, Some, None, refl, ◌∙◌, ap, arith, length-append}
use Rattle.col_common.specs.Reading.{IsBytes}
use Rattle.col_model.specs.Stats.{Stats, stats_at, stats_bytes}
use Rattle.col_model.specs.U64List.{values64}
use Rattle.col_model.proofs.OneFormLaws.{stats_bytes-stats_at}
use Rattle.std.proofs.Math.Seq.{drop-append_seam}
use Rattle.col_codecs.specs.Header.{list_by}

-- what stands behind the statistics ends with the bytes
pub stats_at-behind : (bytes rest : List ℕ) (s : Stats) → IsBytes bytes → stats_at bytes ≡ Some (s, rest)
    → (length rest ≤ length bytes) × (drop (length bytes - length rest) bytes ≡ rest)
stats_at-behind bytes rest s b e =
    let spelled = (stats_bytes-stats_at bytes s rest b e).0 in
    let long : length bytes ≡ length (stats_bytes s) + length rest = ap length spelled ∙ length-append (stats_bytes s) rest in
    let start : length bytes - length rest ≡ length (stats_bytes s) = omega (arith, long) in
    (omega (arith, long), ap (λ n. drop n bytes) start ∙ ap (drop (length (stats_bytes s))) spelled ∙ drop-append_seam (stats_bytes s) rest)

-- a list by its statistics, and what is behind them
pub values64-some : (codec : ℕ) (bytes : List ℕ) (s : Stats) (rest : List ℕ) → stats_at bytes ≡ Some (s, rest)
    → values64 (codec ∷ bytes) ≡ list_by codec s rest
unfolding values64 list_by
values64-some codec bytes s rest e = rw e refl

-- bytes that don't spell statistics behind their code stand for no list
pub values64-none : (codec : ℕ) (bytes : List ℕ) → stats_at bytes ≡ None → values64 (codec ∷ bytes) ≡ None
unfolding values64
values64-none codec bytes e = rw e refl
