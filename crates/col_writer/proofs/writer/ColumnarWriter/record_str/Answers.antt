use Rattle.std.proofs.Common.{refl, subst, List, ℕ}
use Rattle.col_model.specs.ColumnType as types
use Rattle.col_model.specs.Category as categories
use Rattle.col_model.specs.Recording.{recorded, content_after}
use Rattle.col_model.specs.Table.{text}
use Rattle.col_writer_columns.specs.Answers.{RecordsOrRefuses}
use Rattle.col_writer_columns.specs.Columns.{text_entry}
use Rattle.col_writer_columns.proofs.EntryLemmas.{text-answers, text-new}
use Rattle.col_writer.specs.Columns.{columns_of}
use Rattle.col_writer.specs.Contents.{writer_content}
use Rattle.col_writer.proofs.CallLemmas.{change-records, recorded-follows}
use Rattle.col_writer.proofs.writer.ColumnarWriter.record_str.Goals as goal

pub returns : goal.returns
returns c =
    let w = c.self.inside in
    let m = columns_of w.numerical w.bytes w.strs w.bools w.ip_addrs w.datetimes in
    let new = columns_of w.numerical w.bytes c.change.new.self w.bools w.ip_addrs
    w.datetimes in
    let value = c.as_bytes-value.result.now in
    let P : List ℕ → Type 0 = λ t. RecordsOrRefuses c.args.self.now (writer_content new) c.change.result
    (content_after c.args.self.now (recorded c.args.doc c.args.name.now types.str (text t))) in
    subst P c.as_bytes-value.ensures.value
    (change-records m categories.str (text_entry types.str) w.strs
    c.change.new.self c.args.name.now _ _ refl
    (recorded-follows c.args.name.now c.args.doc types.str (text value) categories.str refl) _ _ c.args.self.now
    c.change.result c.self.view_is (text-new types.str)
    (λ v u h. text-answers types.str v u c.args.doc value c.change.result h.0 h.1 h.2) c.change.ensures)
