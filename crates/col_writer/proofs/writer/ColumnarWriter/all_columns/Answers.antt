use Rattle.std.proofs.Common.{◌∙◌, ◌++◌, ap, map}
use Rattle.col_model.specs.Category as categories
use Rattle.col_model.specs.ColumnType as types
use Rattle.col_types.specs.Cells.{bool_cell, unsigned_cell}
use Rattle.col_writer_columns.specs.Columns.{text_entry, plain_entry}
use Rattle.col_writer_columns.specs.Values.{time_cell}
use Rattle.col_writer_file.specs.Tables.{named_entry}
use Rattle.col_writer.specs.Columns.{columns_of, each_entry}
use Rattle.col_writer.specs.Contents.{under}
use Rattle.col_writer.proofs.ListingLemmas.{all-listed, each-differ, all-slotted}
use Rattle.col_writer.proofs.writer.ColumnarWriter.all_columns.Goals as goal

pub returns : goal.returns
returns c =
    let w = c.self.inside in
    let m = columns_of w.numerical w.bytes w.strs w.bools w.ip_addrs w.datetimes in
    all-listed m _ c.args.self.now (record {
      numerical = each-differ (λ e. e) w.numerical c.names_differ.ensures;
      bytes = each-differ (text_entry types.bytes) w.bytes c.names_differ-2.ensures;
      str = each-differ (text_entry types.str) w.strs c.names_differ-3.ensures;
      bool = each-differ (plain_entry types.bool bool_cell) w.bools c.names_differ-4.ensures;
      ip = each-differ (plain_entry types.ip unsigned_cell) w.ip_addrs c.names_differ-5.ensures;
      datetime = each-differ (plain_entry types.datetime time_cell) w.datetimes c.names_differ-6.ensures;
    }) (all-slotted m _ _ _ _ _ _
    (c.in_ok-list.ensures
    ∙ ap (λ l. map named_entry l ++ under categories.numerical (each_entry (λ e. e) w.numerical))
    c.new-columns.ensures.items)
    c.in_ok-list-2.ensures c.in_ok-list-3.ensures c.in_ok-list-4.ensures c.in_ok-list-5.ensures c.in_ok-list-6.ensures)
    c.self.view_is
