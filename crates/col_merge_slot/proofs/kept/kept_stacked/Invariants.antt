use Rattle.std.proofs.Common.{◌≡◌, map, take}
use Rattle.col_merge_slot.specs.Kept.{has_values}
use Rattle.col_merge_slot.proofs.kept.kept_stacked.Given as goal

-- the flags of those that were passed
abbrev pub invariant-loop-column : goal.invariant-loop-column
invariant-loop-column l = l.kept.items ≡ map has_values (take l.column-index l.columns)
