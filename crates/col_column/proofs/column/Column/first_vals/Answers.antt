use Rattle.std.proofs.Common.{◌∙◌, ap}
use Rattle.col_indexer.specs.Indexes.{shape_of}
use Rattle.col_column.proofs.FirstLemmas.{full_firsts}
use Rattle.col_column.proofs.column.Column.first_vals.Goals as goal

pub returns-in-Full : goal.returns-in-Full
returns-in-Full g c =
    c.get_vals_opt.ensures
    ∙ full_firsts g.V.ColumnValues.values c.args.self.now (shape_of c.self.inside.index) c.self.inside.values
    c.args.doc_ids.now c.self.view_is (ap shape_of c.in-Full.is)
