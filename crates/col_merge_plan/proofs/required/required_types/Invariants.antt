use Rattle.std.proofs.Common.{take, drop}
use Rattle.col_merge_plan.specs.Slots.{required_of}
use Rattle.col_merge_plan.proofs.RequiredLemmas.{TypesSoFar}
use Rattle.col_merge_plan.proofs.required.required_types.Given as goal

abbrev pub invariant-loop-name : goal.invariant-loop-name
invariant-loop-name l =
    let all = l.required_columns in
    TypesSoFar l.types (required_of (take l.name-index all)) (required_of (drop l.name-index all)) (required_of all)
