use Rattle.std.proofs.Common.{◌∙◌}
use Rattle.col_writer_columns.proofs.CutLemmas.{posted-set}
use Rattle.col_writer_columns.proofs.column_writer.ColumnWriter.set_last.Goals as goal

pub returns : goal.returns
returns g c =
    posted-set c.self.inside.docs c.self.inside.values.items c.args.self.now c.len-last.result c.args.value
    c.self.view_is c.self.invariant.many c.requires (c.len-last.ensures ∙ c.self.inside.values.ok.0)
