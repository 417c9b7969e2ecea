use Rattle.std.proofs.Common.{◌∙◌}
use Rattle.col_model.specs.ColumnType as types
use Rattle.col_writer_columns.specs.Columns.{text_entry, plain_entry}
use Rattle.col_writer.specs.Columns.{each_entry}
use Rattle.col_types.specs.Cells.{bool_cell, unsigned_cell}
use Rattle.col_writer_columns.specs.Values.{time_cell}
use Rattle.col_writer.specs.Contents.{writer_content}
use Rattle.col_writer.proofs.ContentLemmas.{content-none}
use Rattle.col_writer.proofs.writer.ColumnarWriter.new.Goals as goal

pub returns : goal.returns
returns c =
    (λ i. writer_content (record {
      numerical = each_entry (λ e. e) (c.new.ensures i);
      bytes = each_entry (text_entry types.bytes) (c.new-2.ensures i);
      str = each_entry (text_entry types.str) (c.new-3.ensures i);
      bool = each_entry (plain_entry types.bool bool_cell) (c.new-4.ensures i);
      ip = each_entry (plain_entry types.ip unsigned_cell) (c.new-5.ensures i);
      datetime = each_entry (plain_entry types.datetime time_cell) (c.new-6.ensures i);
    }))
    ∙ content-none
