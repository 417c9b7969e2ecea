use Rattle.std.proofs.Common.{◌≡◌, ◌-◌, length, map, take, slice_get, Some}
use Rattle.col_numbers.specs.Readers.{list_of}
use Rattle.col_numbers.proofs.PlaceLemmas.{IsFilled}
use Rattle.col_numbers.proofs.num_view.see_vals.Given as goal

-- the front of the output is what the numbers at the places so far are seen as
abbrev pub invariant-loop-done : goal.invariant-loop-done
invariant-loop-done g l =
    IsFilled l.fn.output l.output l.block l.done
    (map Some (take l.done l.output)
    ≡ map (slice_get (map (λ n. g.T.MonotonicallyMappableToU64.value (g.M.StrictlyMonotonicFn.there l.mapping n))
    (list_of l.values))) (take l.done l.indexes))

abbrev pub decreases-loop-done : goal.decreases-loop-done
decreases-loop-done g l = length l.output - l.done
