use Rattle.std.proofs.Common.{◌∙◌, sym, refl, ◌^◌}
use Rattle.col_model.specs.ColumnType as types
use Rattle.col_types.specs.Cells.{unsigned_cell}
use Rattle.std.proofs.lemmas.Bool.{leb-false}
use Rattle.col_writer_file.proofs.PlainLemmas.{plain-written, same-numbers, codes-of-rows}
use Rattle.col_writer_file.proofs.plain.serialize_addresses.Goals as goal

pub serialize_address_column-requires-clause-codes : goal.serialize_address_column-requires-clause-codes
serialize_address_column-requires-clause-codes g c =
    leb-false (2 ^ 32) _ (sym (codes-of-rows c.args.order.now c.docs.result.now c.deref.result.now c.args.column.now
    c.docs.ensures (c.deref.ensures.value ∙ c.in_ok-numbers.ensures ∙ c.values.ensures.values))
    ∙ c.requires.codes)

pub returns : goal.returns
returns g c =
    plain-written _ _ _ types.ip unsigned_cell (λ x. x) c.args.order.now c.docs.result.now c.deref.result.now
    c.args.column.now (λ x. refl) c.docs.ensures
    (c.deref.ensures.value ∙ c.in_ok-numbers.ensures ∙ c.values.ensures.values ∙ same-numbers _) c.serialize_address_column.ensures
