use Rattle.std.proofs.Common.{sym}
use Rattle.col_writer_columns.proofs.PostedLemmas.{docs-zip}
use Rattle.col_writer_columns.proofs.column_writer.ColumnWriter.docs.Goals as goal

pub returns : goal.returns
returns g c = sym (docs-zip c.self.inside.docs c.self.inside.values.items c.args.self.now c.self.view_is c.self.invariant.many)
