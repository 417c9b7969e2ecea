use Rattle.std.proofs.Common.{◌∙◌, sym}
use Rattle.col_model.specs.ColumnType as types
use Rattle.col_writer_columns.specs.Values.{time_cell}
use Rattle.col_writer_file.proofs.PlainLemmas.{docs-in-records}
use Rattle.col_writer_file.proofs.entry_column.time_docs.Goals as goal

pub returns : goal.returns
returns c = c.docs.ensures ∙ sym (docs-in-records types.datetime time_cell c.args.column.now.column)
