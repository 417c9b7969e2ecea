use Rattle.std.proofs.Common.{◌∙◌, ap}
use Rattle.col_model.specs.Category as categories
use Rattle.col_model.specs.Written.{entry_type}
use Rattle.col_writer_columns.proofs.TypingLemmas.{accepted-type}
use Rattle.col_writer_columns.proofs.numerical_column_writer.NumericalColumnWriter.numerical_type.Goals as goal

pub returns : goal.returns
returns c =
    c.to_numerical_type.ensures
    ∙ accepted-type c.self.inside.accepted c.self.inside.types c.self.inside.column c.self.inside.tie_start
    c.self.invariant
    ∙ ap (entry_type categories.numerical) c.self.view_is
