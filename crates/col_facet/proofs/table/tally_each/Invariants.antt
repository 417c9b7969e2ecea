use Rattle.std.proofs.Common.{◌≡◌, ℕ, ◌+◌, ◌<◌, ◌==◌, length, get_or, take}
use Rattle.std.specs.List.{count_by}
use Rattle.col_facet.proofs.table.tally_each.Given as goal

abbrev pub invariant-loop-value : goal.invariant-loop-value
invariant-loop-value g l =
    (i : ℕ) → i < length l.counts → get_or l.counts i 0
    ≡ get_or l.fn.counts i 0 + count_by (λ x. g.T.MonotonicallyMappableToU64.code x == l.base + i) (take l.value-index l.values)
