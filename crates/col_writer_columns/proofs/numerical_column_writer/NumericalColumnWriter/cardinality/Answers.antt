use Rattle.std.proofs.Common.{◌∙◌, ap, sym, map}
use Rattle.col_model.specs.Written.{Entry, Record}
use Rattle.col_writer_columns.specs.Cardinalities.{cardinality_by}
use Rattle.col_writer_columns.proofs.NumericalLemmas.{docs-records}
use Rattle.col_writer_columns.proofs.numerical_column_writer.NumericalColumnWriter.cardinality.Goals as goal

pub returns : goal.returns
returns c =
    c.get_cardinality.ensures
    ∙ ap (cardinality_by c.args.num_docs) (
    sym (docs-records c.self.inside.types c.self.inside.column c.self.invariant.many)
    ∙ ap (λ (e : Entry). map (λ (r : Record). r.doc) e.records) c.self.view_is)
