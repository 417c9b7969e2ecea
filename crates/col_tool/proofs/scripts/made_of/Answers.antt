use Rattle.std.proofs.Common.{map}
use Rattle.std.proofs.lemmas.Result.{err_from_is_err_and}
use Rattle.col_outcome.proofs.PartLemmas.{all_keep-none}
use Rattle.col_tool.proofs.DecidedLemmas.{read-decided}
use Rattle.col_tool.proofs.RefusedLemmas.{read-among}
use Rattle.col_tool.proofs.scripts.made_of.Goals as goal

pub returns-in_err-text-clause-among : goal.returns-in_err-text-clause-among
returns-in_err-text-clause-among g c =
    let p = err_from_is_err_and c.from_residual.result c.from_residual.ensures.1 in
    rw (p.1, p.2) (read-among _ c.in_err-text.ensures.among)

pub returns-in_err-text-clause-handles : goal.returns-in_err-text-clause-handles
returns-in_err-text-clause-handles g c = all_keep-none (map g.H.FileHandle.seen c.args.inputs.now.items)

pub returns-clause-script_alone : goal.returns-clause-script_alone
returns-clause-script_alone g c =
    read-decided _ c.in_ok-text.text.items _ c.made_of_bytes.result c.in_ok-text.ensures.text c.in_ok-text.ensures.short
    (rw c.deref.ensures.value at c.made_of_bytes.ensures.script_alone)
