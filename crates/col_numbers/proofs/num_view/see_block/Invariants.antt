use Rattle.std.proofs.Common.{◌≡◌, take, map}
use Rattle.col_numbers.proofs.num_view.see_block.Given as goal

-- what is written is what the block's front is seen as
abbrev pub invariant-loop-at : goal.invariant-loop-at
invariant-loop-at g l =
    take l.at l.output ≡ map (λ n. g.T.MonotonicallyMappableToU64.value (g.M.StrictlyMonotonicFn.there l.mapping n))
    (take l.at l.block)
