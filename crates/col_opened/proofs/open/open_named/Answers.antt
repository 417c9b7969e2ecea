use Rattle.std.proofs.Common.{refl, ◌∙◌}
use Rattle.std.proofs.lemmas.Result.{err_from_is_err_and}
use Rattle.col_dynamic.proofs.RowLemmas.{seen-rows}
use Rattle.col_opened.specs.Opened.{entry_listed}
use Rattle.col_opened.specs.declared.open_columns.OpenColumn.{OpenColumn}
use Rattle.col_opened.proofs.OpenLemmas.{entry-refused, entry-answered}
use Rattle.col_opened.proofs.open.open_named.Goals as goal

pub returns-in_err-column-clause-answer : goal.returns-in_err-column-clause-answer
returns-in_err-column-clause-answer g c entry =
    let r = c.args.reader.now in
    let e = entry_listed (c.args.name, c.args.handle.now) in
    let p = err_from_is_err_and c.from_residual.result c.from_residual.ensures.1 in
    rw (p.1, p.2) (entry-refused r.keys e entry r.file c.open.new.reader.file c.in_err-column.field-0.0 c.in_err-column.ensures.answer)

pub returns-clause-answer : goal.returns-clause-answer
returns-clause-answer g c entry =
    let r = c.args.reader.now in
    let e = entry_listed (c.args.name, c.args.handle.now) in
    let made : OpenColumn = record { name = c.args.name; column = c.in_ok-column.column } in
    entry-answered r.keys e entry r.file.told made refl c.in_ok-column.ensures.answer

pub returns-clause-rows : goal.returns-clause-rows
returns-clause-rows g c = seen-rows c.in_ok-column.column ∙ c.in_ok-column.ensures.typed.rows
