use Rattle.std.proofs.Common.{◌∙◌, ap, sym, arith, length, map, refl}
use Rattle.std.specs.List.{range_with_len, zip}
use Rattle.col_model.specs.AddressList.{least_codes}
use Rattle.col_common.specs.Ascending.{are_below}
use Rattle.col_model.specs.ColumnType as types
use Rattle.col_model.specs.U64List.{joined_lists}
use Rattle.col_writer_rows.specs.Rows.{picked_rows}
use Rattle.col_writer_rows.proofs.ColumnLemmas.{column-written, own-counts, own-values}
use Rattle.col_writer_rows.proofs.addresses.serialize_address_column.Goals as goal

pub serialize_placed-requires-clause-rows : goal.serialize_placed-requires-clause-rows
serialize_placed-requires-clause-rows g c = omega (arith, ap length c.in-Some.ensures, c.documents_have_rows.ensures.few)

pub serialize_own-requires-clause-codes : goal.serialize_own-requires-clause-codes
serialize_own-requires-clause-codes g c =
    omega (
      arith,
      c.requires.codes,
      ap least_codes (own-values c.num_rows.result c.args.order.now c.args.docs.now
          c.args.addresses.now (c.in-None.ensures ∙ ap (range_with_len 0) (sym c.num_rows.ensures))
          c.never_fall.ensures (ap (λ k. are_below k c.args.docs.now) c.num_rows.ensures ∙ c.requires.below)
          c.requires.beside),
    )

pub returns-in-Some : goal.returns-in-Some
returns-in-Some g c =
    let same = ap (λ r. picked_rows r (zip c.args.docs.now c.args.addresses.now)) c.in-Some.ensures in
    column-written _ _ _ types.ip (length c.args.order.now) c.args.order.now c.args.docs.now c.args.addresses.now _
    _ refl refl (ap (map length) same) (ap joined_lists same) c.serialize_placed.ensures

pub returns-in-None : goal.returns-in-None
returns-in-None g c =
    let own = c.in-None.ensures ∙ ap (range_with_len 0) (sym c.num_rows.ensures) in
    column-written _ _ _ types.ip (length c.args.order.now) c.args.order.now c.args.docs.now c.args.addresses.now _ _ refl refl
    (own-counts c.num_rows.result c.args.order.now c.args.docs.now c.args.addresses.now own c.requires.beside)
    (own-values c.num_rows.result c.args.order.now c.args.docs.now c.args.addresses.now own c.never_fall.ensures
    (ap (λ k. are_below k c.args.docs.now) c.num_rows.ensures ∙ c.requires.below) c.requires.beside)
    c.serialize_own.ensures
