use Rattle.std.proofs.Common.{arith}
use Rattle.col_numbers.specs.Readers.{list_of}
use Rattle.col_index.proofs.SetLemmas.{row_below}
use Rattle.col_index.proofs.listed_rows.ListedRows.select.Goals as goal

pub overflow_cast-result : goal.overflow_cast-result
overflow_cast-result c =
    let below = row_below (record { num_rows = c.self.inside.num_rows; rows = list_of c.self.inside.rows })
    c.args.rank c.get_val.result c.self.invariant.rows c.get_val.ensures in
    omega arith
