use Rattle.std.proofs.Common.{◌∙◌, ap, sym, arith, length, refl}
use Rattle.std.specs.List.{range_with_len}
use Rattle.col_writer_rows.proofs.ColumnLemmas.{ords-as}
use Rattle.col_writer_rows.proofs.texts.serialize_ords.Goals as goal

pub serialize_placed_ords-requires-clause-rows : goal.serialize_placed_ords-requires-clause-rows
serialize_placed_ords-requires-clause-rows g c = omega (arith, ap length c.in-Some.ensures, c.documents_have_rows.ensures.few)

pub returns-in-Some : goal.returns-in-Some
returns-in-Some g c =
    ords-as _ _ _ c.args.sorts c.in-Some.row_docs.now c.args.order.now c.args.docs.now _ _ c.in-Some.ensures
    c.deref.ensures.value c.serialize_placed_ords.ensures

pub returns-in-None : goal.returns-in-None
returns-in-None g c =
    ords-as _ _ _ c.args.sorts (range_with_len 0 c.num_rows.result) c.args.order.now c.args.docs.now _ _
    (ap (range_with_len 0) c.num_rows.ensures ∙ sym c.in-None.ensures) refl c.serialize_own_ords.ensures
