use Rattle.std.proofs.Common.{◌≡◌, refl, arith, to_z, of_z, w64}
use Rattle.std.proofs.lemmas.Int.{ints}
use Rattle.col_model.specs.Category as categories
use Rattle.col_writer_columns.proofs.TypingLemmas.{exactly-records}
use Rattle.col_writer.specs.Columns.{columns_of}
use Rattle.col_writer.proofs.CallLemmas.{change-records}
use Rattle.col_writer.proofs.TypingLemmas.{tied-follows}
use Rattle.col_writer.proofs.writer.ColumnarWriter.record_tie_breaker_column.Goals as goal

pub returns : goal.returns
returns c =
    let w = c.self.inside in
    let m = columns_of w.numerical w.bytes w.strs w.bools w.ip_addrs w.datetimes in
    let same : to_z w64 (of_z w64 c.args.start) ≡ c.args.start = omega (arith, ints) in
    change-records m categories.numerical (λ e. e) w.numerical c.change.new.self
    c.args.name.now _ _ refl (tied-follows c.args.name.now c.args.start _ same) _ _ c.args.self.now c.change.result
    c.self.view_is (λ e is. is) (λ e f h. exactly-records e f _ _ h) c.change.ensures
