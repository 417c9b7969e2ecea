use Rattle.col_writer_columns.proofs.NumericalLemmas.{new-parts}
use Rattle.col_writer_columns.proofs.numerical_column_writer.NumericalColumnWriter.new.Goals as goal

pub invariant_of-result : goal.invariant_of-result
invariant_of-result c = (new-parts c.default.result c.new.result c.new-2.result c.default.ensures c.new.ensures c.new-2.ensures).1

pub returns : goal.returns
returns c = (new-parts c.default.result c.new.result c.new-2.result c.default.ensures c.new.ensures c.new-2.ensures).0
