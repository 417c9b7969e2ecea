use Rattle.std.proofs.Common.{refl}
use Rattle.col_model.specs.ColumnType as types
use Rattle.col_model.specs.Category as categories
use Rattle.col_model.specs.Table.{text}
use Rattle.col_writer_columns.specs.Columns.{text_entry}
use Rattle.col_writer_columns.proofs.EntryLemmas.{text-answers, text-new}
use Rattle.col_writer.specs.Columns.{columns_of}
use Rattle.col_writer.proofs.CallLemmas.{change-records, recorded-follows}
use Rattle.col_writer.proofs.writer.ColumnarWriter.record_bytes.Goals as goal

pub returns : goal.returns
returns c =
    let w = c.self.inside in
    let m = columns_of w.numerical w.bytes w.strs w.bools w.ip_addrs w.datetimes in
    let value = c.args.value.now in
    change-records m categories.bytes (text_entry types.bytes) w.bytes
    c.change.new.self c.args.name.now _ _ refl
    (recorded-follows c.args.name.now c.args.doc types.bytes (text value) categories.bytes refl) _ _ c.args.self.now
    c.change.result c.self.view_is (text-new types.bytes)
    (λ v u h. text-answers types.bytes v u c.args.doc value c.change.result h.0 h.1 h.2) c.change.ensures
