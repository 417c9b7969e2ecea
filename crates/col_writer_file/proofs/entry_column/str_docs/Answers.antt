use Rattle.std.proofs.Common.{◌∙◌, sym}
use Rattle.col_model.specs.ColumnType as types
use Rattle.col_model.specs.Table.{text}
use Rattle.col_writer_file.proofs.PlainLemmas.{docs-in-records}
use Rattle.col_writer_file.proofs.TextEntryLemmas.{docs-in-texts}
use Rattle.col_writer_file.proofs.entry_column.str_docs.Goals as goal

pub returns : goal.returns
returns c =
    c.docs.ensures
    ∙ sym (docs-in-texts c.parts.result.0.now c.parts.result.1.now c.args.column.now.values c.parts.ensures)
    ∙ sym (docs-in-records types.str text c.args.column.now.values)
