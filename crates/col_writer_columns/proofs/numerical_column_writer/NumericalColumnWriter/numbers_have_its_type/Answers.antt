use Rattle.col_writer_columns.proofs.TypingLemmas.{type-holds}
use Rattle.col_writer_columns.proofs.numerical_column_writer.NumericalColumnWriter.numbers_have_its_type.Goals as goal

pub returns-clause-holds : goal.returns-clause-holds
returns-clause-holds c t e =
    let w = c.self.inside in
    type-holds w.accepted w.types w.column w.tie_start c.args.self.now t c.self.invariant c.self.view_is e
