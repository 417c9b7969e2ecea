use Rattle.std.proofs.Common.{List, [], map, refl, inl, inr}
use Rattle.col_model.specs.File.{Part, part_of_table}
use Rattle.col_model.specs.Merge.{merged}
use Rattle.col_order.specs.RowOrders.{order_of}
use Rattle.col_segments.proofs.MergeLemmas.{conflict-refused, large-refused, merge-made, written}
use Rattle.col_segments.proofs.compacting.merge_rows.Goals as goal

pub returns-in-Ok-clause-made : goal.returns-in-Ok-clause-made
returns-in-Ok-clause-made c tables files =
    let order = order_of c.args.order in
    let made =
    merge-made tables c.args.readers.now c.merge_columnar.new.columnar_readers files (λ (parts : List Part). merged parts [] order)
    c.new-file.result c.merge_columnar.new.output c.merge_columnar.new.output tt c.new-file.ensures refl c.in-Ok.ensures.answer in
    written (merged (map part_of_table tables) [] order) c.merge_columnar.new.output c.file_of.result made
    c.file_of.ensures.ok c.file_of.ensures.err

pub returns-in-Err-NumericalConflict-clause-made : goal.returns-in-Err-NumericalConflict-clause-made
returns-in-Err-NumericalConflict-clause-made c tables files = record {
  ok = tt;
  refused =
      inr (inl (
        refl,
        conflict-refused tables c.args.readers.now c.merge_columnar.new.columnar_readers files
            (λ (parts : List Part). merged parts [] (order_of c.args.order)) c.new-file.result c.merge_columnar.new.output
            c.in-Err-NumericalConflict.field-0 c.in-Err-NumericalConflict.ensures.answer c.in-Err-NumericalConflict.field-0-is,
      ));
}

pub returns-in-Err-TooLarge-clause-made : goal.returns-in-Err-TooLarge-clause-made
returns-in-Err-TooLarge-clause-made c tables files = record {
  ok = tt;
  refused =
      inr (inr (
        refl,
        large-refused tables c.args.readers.now c.merge_columnar.new.columnar_readers files
            (λ (parts : List Part). merged parts [] (order_of c.args.order)) c.new-file.result c.merge_columnar.new.output
            c.in-Err-TooLarge.field-0 c.in-Err-TooLarge.ensures.answer c.in-Err-TooLarge.field-0-is,
      ));
}
