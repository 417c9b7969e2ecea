use Rattle.std.proofs.Common.{◌∙◌, sym}
use Rattle.std.proofs.lemmas.Result.{err_from_is_err_and}
use Rattle.col_merge.proofs.OpenLemmas.{handle-none, handle-opened, handle-read, handle-refused}
use Rattle.col_merge.proofs.opening.open_in.Goals as goal

pub returns-in_err-open-in-Some-clause-err : goal.returns-in_err-open-in-Some-clause-err
returns-in_err-open-in-Some-clause-err g c =
    let p = err_from_is_err_and c.from_residual-in_err-open-in-Some.result c.from_residual-in_err-open-in-Some.ensures.1 in
    rw (p.1, p.2) (handle-refused c.args.slot.now c.args.reader.now c.file_is_whole.ensures c.in-Some.handle
    (sym c.in-Some.is ∙ c.in_ok-handle.ensures.ok) c.open.new.reader c.in_err-open-in-Some.field-0.0
    c.in_err-open-in-Some.ensures.answer)

pub returns-in_ok-open-in-Some-clause-ok : goal.returns-in_ok-open-in-Some-clause-ok
returns-in_ok-open-in-Some-clause-ok g c =
    handle-opened c.args.slot.now c.args.reader.now c.file_is_whole.ensures c.in-Some.handle
    (sym c.in-Some.is ∙ c.in_ok-handle.ensures.ok) c.in_ok-open-in-Some.field-0 c.in_ok-open-in-Some.ensures.answer
    c.in_ok-open-in-Some.ensures.typed

pub returns-in-None-clause-ok : goal.returns-in-None-clause-ok
returns-in-None-clause-ok g c =
    handle-none c.args.slot.now c.args.reader.now c.file_is_whole.ensures (sym c.in-None.is ∙ c.in_ok-handle.ensures.ok)

pub returns-in_err-open-in-Some-clause-kept : goal.returns-in_err-open-in-Some-clause-kept
returns-in_err-open-in-Some-clause-kept g c =
    handle-read c.args.slot.now c.args.reader.now c.file_is_whole.ensures c.in-Some.handle
    (sym c.in-Some.is ∙ c.in_ok-handle.ensures.ok) c.open.new.reader c.in_err-open-in-Some.ensures.kept

pub returns-in_ok-open-in-Some-clause-kept : goal.returns-in_ok-open-in-Some-clause-kept
returns-in_ok-open-in-Some-clause-kept g c =
    handle-read c.args.slot.now c.args.reader.now c.file_is_whole.ensures c.in-Some.handle
    (sym c.in-Some.is ∙ c.in_ok-handle.ensures.ok) c.open.new.reader c.in_ok-open-in-Some.ensures.kept
