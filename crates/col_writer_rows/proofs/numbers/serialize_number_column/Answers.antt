use Rattle.std.proofs.Common.{◌∙◌, ap, sym, arith, length}
use Rattle.std.specs.List.{range_with_len}
use Rattle.col_common.specs.Ascending.{are_below}
use Rattle.col_writer_rows.proofs.ColumnLemmas.{own-written, placed-written}
use Rattle.col_writer_rows.proofs.numbers.serialize_number_column.Goals as goal

pub serialize_placed-requires-clause-rows : goal.serialize_placed-requires-clause-rows
serialize_placed-requires-clause-rows g c = omega (arith, ap length c.in-Some.ensures, c.documents_have_rows.ensures.few)

pub returns-in-Some : goal.returns-in-Some
returns-in-Some g c =
    placed-written _ _ _ c.args.order.now c.in-Some.row_docs.now c.args.docs.now c.args.numbers.now
    c.in-Some.ensures c.serialize_placed.ensures

pub returns-in-None : goal.returns-in-None
returns-in-None g c =
    own-written _ _ _ c.num_rows.result c.args.order.now c.args.docs.now c.args.numbers.now c.num_rows.ensures
    (c.in-None.ensures ∙ ap (range_with_len 0) (sym c.num_rows.ensures)) c.never_fall.ensures
    (ap (λ k. are_below k c.args.docs.now) c.num_rows.ensures ∙ c.requires.below) c.requires.beside c.serialize_in_order.ensures
