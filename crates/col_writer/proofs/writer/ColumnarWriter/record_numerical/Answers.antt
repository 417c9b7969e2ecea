use Rattle.std.proofs.Common.{refl}
use Rattle.col_model.specs.Category as categories
use Rattle.col_model.specs.Table.{number}
use Rattle.col_types.specs.Numbers.{number_of}
use Rattle.col_writer_columns.specs.Values.{value_type}
use Rattle.col_writer.specs.Columns.{columns_of}
use Rattle.col_writer.proofs.CallLemmas.{change-records, recorded-follows, value-kind}
use Rattle.col_writer.proofs.writer.ColumnarWriter.record_numerical.Goals as goal

pub returns : goal.returns
returns c =
    let w = c.self.inside in
    let m = columns_of w.numerical w.bytes w.strs w.bools w.ip_addrs w.datetimes in
    let value = c.args.value in
    change-records m categories.numerical (λ e. e) w.numerical c.change.new.self
    c.args.name.now _ _ refl
    (recorded-follows c.args.name.now c.args.doc (value_type value) (number (number_of value)) categories.numerical (value-kind value))
    _ _ c.args.self.now c.change.result c.self.view_is (λ e is. is) (λ e f h. h) c.change.ensures
