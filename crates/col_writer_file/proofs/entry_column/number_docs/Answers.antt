use Rattle.std.proofs.Common.{◌∙◌, sym}
use Rattle.col_writer_file.proofs.NumberLemmas.{docs-in-codes}
use Rattle.col_writer_file.proofs.entry_column.number_docs.Goals as goal

pub returns : goal.returns
returns c = c.docs.ensures ∙ sym (docs-in-codes c.args.column.now.records c.codes.result.now c.codes.ensures)
