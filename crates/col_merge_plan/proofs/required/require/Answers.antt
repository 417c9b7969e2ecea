use Rattle.std.proofs.Common.{◌≡◌, Some}
use Rattle.std.specs.BTreeMap.{get}
use Rattle.col_model.specs.Category.{slot_cmp}
use Rattle.col_merge_plan.proofs.RequiredLemmas.{required-again}
use Rattle.col_merge_plan.proofs.required.require.Goals as goal

pub returns-in-Some : goal.returns-in-Some
returns-in-Some c =
    let is : get slot_cmp c.args.types.now c.args.slot ≡ Some c.in-Some.found = cc (c.get.ensures.value, c.in-Some.ensures) in
    required-again c.args.types.now c.args.slot c.in-Some.found c.args.column_type c.agree.result is c.agree.ensures
