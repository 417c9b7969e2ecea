use Rattle.std.proofs.Common.{◌-◌, ◌^◌, subst}
use Rattle.col_common.specs.Replacing.{Replaces}
use Rattle.col_values.specs.Codes.{number_cmp}
use Rattle.col_values.specs.Values.{hits_between}
use Rattle.col_tests_numbers.proofs.counted.look_up_in_two_steps.Goals as goal

pub returns-clause-ok : goal.returns-clause-ok
returns-clause-ok g c =
    let call = c.get_row_ids_counted in
    subst (Replaces call.result call.new.hits.items)
    (λ i. hits_between number_cmp c.args.list.now (c.new.ensures.start i) (c.new.ensures.«end» i) 0 (2 ^ 32 - 1))
    call.ensures.ok
