use Rattle.std.proofs.Common.{ap, arith, length}
use Rattle.std.specs.List.{zip}
use Rattle.col_model.specs.U64List.{joined_lists}
use Rattle.col_writer_rows.specs.Rows.{picked_rows}
use Rattle.col_writer_rows.proofs.ColumnLemmas.{own-values, codes-as}
use Rattle.col_writer_rows.proofs.LimitLemmas.{few-needed}
use Rattle.col_writer_rows.proofs.limits.need_too_many_codes.Goals as goal

pub need_too_many_placed-requires-clause-rows : goal.need_too_many_placed-requires-clause-rows
need_too_many_placed-requires-clause-rows c = omega (arith, ap length c.in-Some.ensures, c.documents_have_rows.ensures.few)

pub returns-in-Some : goal.returns-in-Some
returns-in-Some c =
    codes-as c.need_too_many_placed.result _ _
    (ap (λ r. joined_lists (picked_rows r (zip c.args.docs.now c.args.addresses.now))) c.in-Some.ensures)
    c.need_too_many_placed.ensures

pub returns-in-None : goal.returns-in-None
returns-in-None c =
    codes-as c.need_too_many.result _ _ (own-values (length c.args.order.now) c.args.order.now c.args.docs.now
    c.args.addresses.now c.in-None.ensures c.never_fall.ensures c.requires.below c.requires.beside)
    c.need_too_many.ensures

pub returns-then-addresses-le-FEW_ADDRESSES : goal.returns-then-addresses-le-FEW_ADDRESSES
returns-then-addresses-le-FEW_ADDRESSES c =
    few-needed c.args.order.now c.args.docs.now c.args.addresses.now c.documents_have_rows.ensures.rows
    c.requires.beside (omega (arith, c.if-addresses-le-FEW_ADDRESSES.true))
