use Rattle.std.proofs.Common.{◌<◌, ◌^◌, arith}
use Rattle.col_merge_column.proofs.SingleLemmas.{none-many}
use Rattle.col_merge_column.proofs.cell_counts.has_many_named.Goals as goal

pub returns-then-saturating_mul-from : goal.returns-then-saturating_mul-from
returns-then-saturating_mul-from c =
    let few : c.saturating_mul.result < 2 ^ 32 = omega (arith, c.if-saturating_mul-from.true, c.from.ensures) in
    none-many c.most_in_rows-most.result c.from-num_rows.result c.saturating_mul.result c.args.column_indexes.now
    c.args.order.now.addresses c.most_in_rows-most.ensures
    (omega (arith, c.from-num_rows.ensures, c.num_rows.ensures)) c.saturating_mul.ensures few
