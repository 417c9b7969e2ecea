use Rattle.std.proofs.Common.{refl}
use Rattle.col_writer_rows.proofs.ColumnLemmas.{counted-as}
use Rattle.col_writer_rows.proofs.numbers.serialize_sorted.Goals as goal

pub returns : goal.returns
returns g c = counted-as _ _ _ _ _ _ _ refl c.sort_rows_if.ensures c.serialize_counted.ensures
