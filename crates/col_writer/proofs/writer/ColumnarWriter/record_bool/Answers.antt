use Rattle.std.proofs.Common.{refl}
use Rattle.col_model.specs.ColumnType as types
use Rattle.col_model.specs.Category as categories
use Rattle.col_types.specs.Cells.{bool_cell}
use Rattle.col_writer_columns.specs.Columns.{plain_entry}
use Rattle.col_writer_columns.proofs.EntryLemmas.{plain-answers, plain-new}
use Rattle.col_writer.specs.Columns.{columns_of}
use Rattle.col_writer.proofs.CallLemmas.{change-records, recorded-follows}
use Rattle.col_writer.proofs.writer.ColumnarWriter.record_bool.Goals as goal

pub returns : goal.returns
returns c =
    let w = c.self.inside in
    let m = columns_of w.numerical w.bytes w.strs w.bools w.ip_addrs w.datetimes in
    let cell = bool_cell c.args.value in
    change-records m categories.bool (plain_entry types.bool bool_cell) w.bools
    c.change.new.self c.args.name.now _ _ refl
    (recorded-follows c.args.name.now c.args.doc types.bool cell categories.bool refl) _ _ c.args.self.now c.change.result
    c.self.view_is (λ v e. plain-new types.bool bool_cell v e.0 e.1)
    (λ v u h. plain-answers types.bool bool_cell v u c.args.doc c.args.value c.change.result h.0 h.1) c.change.ensures
