use Rattle.std.proofs.Common.{refl, subst}
use Rattle.std.specs.Prelude.{ℤ}
use Rattle.col_model.specs.ColumnType as types
use Rattle.col_model.specs.Category as categories
use Rattle.col_model.specs.Recording.{recorded, content_after}
use Rattle.col_model.specs.Table.{number}
use Rattle.col_writer_columns.specs.Answers.{RecordsOrRefuses}
use Rattle.col_writer_columns.specs.Columns.{plain_entry}
use Rattle.col_writer_columns.specs.Values.{time_cell}
use Rattle.col_writer_columns.proofs.EntryLemmas.{plain-answers, plain-new}
use Rattle.col_writer.specs.Columns.{columns_of}
use Rattle.col_writer.specs.Contents.{writer_content}
use Rattle.col_writer.proofs.CallLemmas.{change-records, recorded-follows}
use Rattle.col_writer.proofs.writer.ColumnarWriter.record_datetime.Goals as goal

pub returns : goal.returns
returns c =
    let w = c.self.inside in
    let m = columns_of w.numerical w.bytes w.strs w.bools w.ip_addrs w.datetimes in
    let new = columns_of w.numerical w.bytes w.strs w.bools w.ip_addrs
    c.change.new.self in
    let code = c.time_code-value.result in
    let P : ℤ → Type 0 = λ z. RecordsOrRefuses c.args.self.now (writer_content new) c.change.result
    (content_after c.args.self.now (recorded c.args.doc c.args.name.now types.datetime (number z))) in
    subst P c.time_code-value.ensures
    (change-records m categories.datetime (plain_entry types.datetime time_cell) w.datetimes
    c.change.new.self c.args.name.now _ _ refl
    (recorded-follows c.args.name.now c.args.doc types.datetime (time_cell code) categories.datetime refl) _ _
    c.args.self.now c.change.result c.self.view_is (λ v e. plain-new types.datetime time_cell v e.0 e.1)
    (λ v u h. plain-answers types.datetime time_cell v u c.args.doc code c.change.result h.0 h.1) c.change.ensures)
