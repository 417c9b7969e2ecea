use Rattle.std.proofs.Common.{refl}
use Rattle.std.proofs.lemmas.Result.{err_from_is_err_and}
use Rattle.col_tool.proofs.AnswerLemmas.{delivered-leaves, delivered-other, refused-leaves}
use Rattle.col_tool.specs.Expected.{bytes_refusal}
use Rattle.col_tool.proofs.DecidedLemmas.{delivered-decides}
use Rattle.col_tool.proofs.RefusedLemmas.{delivered-among, refusals-among}
use Rattle.col_tool.proofs.scripts.answer.Goals as goal

pub returns-in_err-made-clause-leaves : goal.returns-in_err-made-clause-leaves
returns-in_err-made-clause-leaves g c =
    let p = err_from_is_err_and c.from_residual.result c.from_residual.ensures.1 in
    rw (p.1, p.2) (refused-leaves _ _ _ _ _ c.in_err-made.ensures.among c.in_err-made.ensures.made)

pub returns-in_err-made-clause-among : goal.returns-in_err-made-clause-among
returns-in_err-made-clause-among g c =
    let p = err_from_is_err_and c.from_residual.result c.from_residual.ensures.1 in
    rw (p.1, p.2) (refusals-among _ c.in_err-made.ensures.among)

pub returns-in_err-made-clause-script_alone : goal.returns-in_err-made-clause-script_alone
returns-in_err-made-clause-script_alone g c =
    let p = err_from_is_err_and c.from_residual.result c.from_residual.ensures.1 in
    rw (p.1, p.2) c.in_err-made.ensures.script_alone

pub returns-clause-script_alone : goal.returns-clause-script_alone
returns-clause-script_alone g c = delivered-decides _ bytes_refusal _ _ c.in_ok-made.ensures.script_alone c.deliver.ensures.delivers.among

pub returns-clause-leaves : goal.returns-clause-leaves
returns-clause-leaves g c = delivered-leaves _ _ _ _ _ _ c.in_ok-made.made _ c.in_ok-made.ensures.made c.deliver.ensures.delivers

pub returns-clause-among : goal.returns-clause-among
returns-clause-among g c = delivered-among _ c.deliver.ensures.delivers.among

pub returns-in_err-made-clause-inputs : goal.returns-in_err-made-clause-inputs
returns-in_err-made-clause-inputs g c =
    let p = err_from_is_err_and c.from_residual.result c.from_residual.ensures.1 in
    λ none. rw (p.1, p.2) (c.in_err-made.ensures.inputs none)

pub returns-in_err-made-clause-ended : goal.returns-in_err-made-clause-ended
returns-in_err-made-clause-ended g c =
    let p = err_from_is_err_and c.from_residual.result c.from_residual.ensures.1 in
    rw (p.1, p.2) c.in_err-made.ensures.refused

pub returns-clause-inputs : goal.returns-clause-inputs
returns-clause-inputs g c = λ none. delivered-other 6 _ refl c.deliver.ensures.delivers.among

pub returns-clause-ended : goal.returns-clause-ended
returns-clause-ended g c = λ memory fault long. c.in_ok-made.ensures.ended
