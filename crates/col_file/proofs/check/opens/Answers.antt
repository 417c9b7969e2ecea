use Rattle.col_file.proofs.CheckLemmas.{some-opened}
use Rattle.col_file.specs.Columns.{IsUsage}
use Rattle.col_file.proofs.check.opens.Goals as goal

pub returns-in-Ok-clause-ok : goal.returns-in-Ok-clause-ok
returns-in-Ok-clause-ok g c =
    some-opened (IsUsage c.args.handle.now) c.in-Ok.field-0 c.args.reader.now.file.told c.args.reader.now.keys
    c.args.handle.now c.in-Ok.ensures.answer
