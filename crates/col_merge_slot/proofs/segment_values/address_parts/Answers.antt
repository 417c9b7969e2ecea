use Rattle.std.proofs.Common.{refl, arith}
use Rattle.col_column.specs.IpValues.{ip_values_of}
use Rattle.col_types.specs.Cells.{unsigned_cell}
use Rattle.col_dynamic.specs.declared.dynamic_column.DynamicColumn.TheVariants as columns
use Rattle.col_merge_slot.proofs.ReadLemmas.{addresses-read, same-part}
use Rattle.col_merge_slot.proofs.segment_values.address_parts.Goals as goal

pub returns-clause-read : goal.returns-clause-read
returns-clause-read c =
    let column = c.args.column in
    addresses-read column.shape (ip_values_of column.values) c.max_value.result c.values_are_counted.ensures
    c.max_value.ensures.encloses (omega (arith, c.to_bits-greatest.type_inv, c.to_bits-greatest.ensures))

pub returns-clause-part : goal.returns-clause-part
returns-clause-part c =
    same-part ip_values_of unsigned_cell (columns.IpAddr c.args.column) c.args.column _ _ refl
    c.into_parts.ensures.index c.into_parts.ensures.values c.into_parts.ensures.counted
