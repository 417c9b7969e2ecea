use Rattle.std.proofs.Common.{take}
use Rattle.std.specs.List.{All, AllByRecursion}
use Rattle.col_numbers.specs.NumValues.{num_values_of}
use Rattle.col_values.specs.Monotonic.{Passes}
use Rattle.col_merge_column.proofs.numbers.values_are_told.Given as goal

-- those that were passed are told
abbrev pub invariant-loop-values : goal.invariant-loop-values
invariant-loop-values g l =
    AllByRecursion (λ v. All (Passes g.T.MonotonicallyMappableToU64.in_type) (num_values_of v)) (take l.values-index l.column_values)
