use Rattle.std.proofs.Common.{ap}
use Rattle.col_types.specs.Kinds.{kind_of}
use Rattle.col_merge_plan.specs.RequiredTypes.{conflicts}
use Rattle.col_merge_plan.proofs.RequiredLemmas.{required-new}
use Rattle.col_merge_plan.proofs.required.add.Goals as goal

pub returns : goal.returns
returns c = (
  ap (λ w. conflicts w (kind_of c.args.column_type)) c.requires,
  required-new c.args.types.now c.insert.new.self c.args.slot c.args.column_type c.requires c.in_ok-insert.ensures.updates.0,
)
