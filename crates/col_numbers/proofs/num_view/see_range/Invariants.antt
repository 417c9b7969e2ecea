use Rattle.std.proofs.Common.{◌≡◌, ◌-◌, length, map, take, drop}
use Rattle.col_numbers.specs.Readers.{list_of}
use Rattle.col_numbers.proofs.PlaceLemmas.{IsFilled}
use Rattle.col_numbers.proofs.num_view.see_range.Given as goal

-- the front of the output is what the numbers so far are seen as
abbrev pub invariant-loop-done : goal.invariant-loop-done
invariant-loop-done g l =
    IsFilled l.fn.output l.output l.block l.done
    (take l.done l.output
    ≡ map (λ n. g.T.MonotonicallyMappableToU64.value (g.M.StrictlyMonotonicFn.there l.mapping n))
    (take l.done (drop l.start (list_of l.values))))

abbrev pub decreases-loop-done : goal.decreases-loop-done
decreases-loop-done g l = length l.output - l.done
