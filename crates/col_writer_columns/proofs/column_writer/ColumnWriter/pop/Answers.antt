use Rattle.col_writer_columns.proofs.CutLemmas.{posted-cut}
use Rattle.col_writer_columns.proofs.column_writer.ColumnWriter.pop.Goals as goal

pub invariant_of-self : goal.invariant_of-self
invariant_of-self g c =
    (posted-cut c.self.inside.docs c.pop-2.new.self c.self.inside.values.items c.pop.new.self.items c.args.self.now
    _ c.self.view_is c.self.invariant c.requires c.pop-2.ensures c.self.inside.values.ok.0 c.pop.ensures.rest).0

pub returns : goal.returns
returns g c =
    (posted-cut c.self.inside.docs c.pop-2.new.self c.self.inside.values.items c.pop.new.self.items c.args.self.now
    _ c.self.view_is c.self.invariant c.requires c.pop-2.ensures c.self.inside.values.ok.0 c.pop.ensures.rest).1
