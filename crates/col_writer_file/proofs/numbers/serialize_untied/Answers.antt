use Rattle.std.proofs.Common.{◌∙◌, ap, sym, length}
use Rattle.col_common.specs.Ascending.{are_below}
use Rattle.col_writer_file.proofs.NumberLemmas.{docs-in-codes, signed-typed, signed-written, unsigned-typed, unsigned-written}
use Rattle.col_writer_file.proofs.numbers.serialize_untied.Goals as goal

pub serialize_number_column-requires-clause-below : goal.serialize_number_column-requires-clause-below
serialize_number_column-requires-clause-below g c =
    ap (are_below (length c.args.order.now))
    (c.docs.ensures ∙ sym (docs-in-codes c.args.column.now.records c.codes-codes.result.now c.codes-codes.ensures))
    ∙ c.requires.below

pub returns-then-is_unsigned : goal.returns-then-is_unsigned
returns-then-is_unsigned g c t p =
    unsigned-typed _ _ _ c.args.column.now c.args.order.now c.codes-codes.result.now t p
    (c.is_unsigned.ensures.unsigned c.if-is_unsigned.true) c.codes-codes.ensures
    c.numbers_have_its_type.ensures.holds c.numbers_have_its_type.ensures.unsorted c.requires.untied
    (λ e h. unsigned-written _ _ _ c.args.order.now c.docs.result.now c.deref.result.now c.codes-codes.result.now
    c.values-stored.result.now e c.docs.ensures c.values-stored.ensures.values c.numbers_fit.ensures
    (c.deref.ensures.value ∙ c.in_ok-numbers.ensures) h c.serialize_number_column.ensures)

pub serialize_number_column-requires-2-clause-below : goal.serialize_number_column-requires-2-clause-below
serialize_number_column-requires-2-clause-below g c =
    ap (are_below (length c.args.order.now))
    (c.docs-2.ensures ∙ sym (docs-in-codes c.args.column.now.records c.codes-codes.result.now c.codes-codes.ensures))
    ∙ c.requires.below

pub returns : goal.returns
returns g c t p =
    signed-typed _ _ _ c.args.column.now c.args.order.now c.codes-codes.result.now t p
    (c.is_unsigned.ensures.signed c.if-is_unsigned.false t p) c.codes-codes.ensures
    c.numbers_have_its_type.ensures.holds c.numbers_have_its_type.ensures.unsorted c.requires.untied
    (λ e h. signed-written _ _ _ c.args.order.now c.docs-2.result.now c.values-stored.result.now c.codes-codes.result.now e
    c.docs-2.ensures c.values-stored.ensures.values c.numbers_fit.ensures h c.serialize_number_column-2.ensures)
