use Rattle.std.proofs.Common.{◌≡◌, take, map}
use Rattle.col_values.proofs.monotonic_column.map_block.Given as goal

-- what is written is what the block's front is mapped to
abbrev pub invariant-loop-at : goal.invariant-loop-at
invariant-loop-at g l = take l.at l.output ≡ map (g.M.StrictlyMonotonicFn.there l.mapping) (take l.at l.block)
