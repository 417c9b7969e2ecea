use Rattle.std.proofs.Common.{◌≡◌, false, take}
use Rattle.std.specs.List.{list_any}
use Rattle.col_merge_slot.proofs.joined_slot.has_flag.Given as goal

-- no flag that was passed is set
abbrev pub invariant-loop-flag : goal.invariant-loop-flag
invariant-loop-flag l = list_any (λ b. b) (take l.flag-index l.flags) ≡ false
