use Rattle.std.proofs.Common.{◌≡◌, ◌==◌, take}
use Rattle.std.specs.List.{count_by}
use Rattle.col_facet.proofs.table.count_equal.Given as goal

abbrev pub invariant-loop-value : goal.invariant-loop-value
invariant-loop-value g l =
    l.count ≡ count_by (λ x. g.T.MonotonicallyMappableToU64.code x == l.number) (take l.value-index l.values)
