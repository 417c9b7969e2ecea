use Rattle.std.proofs.Common.{arith, ap, length}
use Rattle.col_writer_columns.proofs.PostedLemmas.{length-zip}
use Rattle.col_writer_columns.proofs.column_writer.ColumnWriter.num_values.Goals as goal

pub returns-clause-value : goal.returns-clause-value
returns-clause-value g c =
    omega (
      arith,
      c.len.ensures,
      c.self.inside.values.ok.0,
      ap length c.self.view_is,
      length-zip c.self.inside.docs c.self.inside.values.items c.self.invariant.many,
    )

pub returns-clause-few : goal.returns-clause-few
returns-clause-few g c = omega (arith, c.len.ensures, c.self.inside.values.ok.0, c.self.invariant.few)
