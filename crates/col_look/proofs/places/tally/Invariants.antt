-- Each place has how many of the values so far stand there, beside those of before.
use Rattle.std.proofs.Common.{◌≡◌, ℕ, ◌+◌, ◌<◌, ◌==◌, length, get_or, take}
use Rattle.std.specs.List.{count_by}
use Rattle.col_look.specs.Places.{place_of}
use Rattle.col_look.proofs.places.tally.Given as goal

abbrev pub invariant-loop-value : goal.invariant-loop-value
invariant-loop-value g l =
    (i : ℕ) → i < length l.counts → get_or l.counts i 0
    ≡ get_or l.fn.counts i 0
    + count_by (λ x. place_of l.base l.width (g.T.MonotonicallyMappableToU64.code x) == i) (take l.value-index l.values)
