use Rattle.col_writer_file.proofs.TableLemmas.{AreChecked}
use Rattle.col_writer_file.proofs.table.check_columns.Given as goal

abbrev pub invariant-loop-column : goal.invariant-loop-column
invariant-loop-column l = AreChecked l.order l.columns l.column-index l.types.items
