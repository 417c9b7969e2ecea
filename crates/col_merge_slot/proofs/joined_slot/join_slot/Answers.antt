use Rattle.std.proofs.Common.{refl, subst, ◌∙◌, option_map}
use Rattle.std.proofs.lemmas.Result.{err_from_is_err_and}
use Rattle.col_types.specs.Kinds.{kind_of}
use Rattle.col_merge_slot.specs.Taken.{TakesSlot}
use Rattle.col_merge_slot.proofs.joined_slot.join_slot.Goals as goal

pub returns-in_err-kept-clause-taken : goal.returns-in_err-kept-clause-taken
returns-in_err-kept-clause-taken g c =
    let p = err_from_is_err_and c.from_residual.result c.from_residual.ensures.1 in
    rw (p.1, p.2) (record { count = 0; left = refl })

pub returns-clause-taken : goal.returns-clause-taken
returns-clause-taken g c =
    subst (λ flags. TakesSlot (option_map kind_of c.args.wanted) c.args.columns.now flags c.join_kept.new.columns c.join_kept.result)
    (c.deref.ensures.value ∙ c.in_ok-kept.ensures) c.join_kept.ensures.taken
