use Rattle.std.proofs.Common.{◌≡◌, map, filter, take, not}
use Rattle.col_model.specs.Written.{has_zero}
use Rattle.col_writer_file.specs.Tables.{named_entry}
use Rattle.col_writer_file.proofs.table.columns_of_table.Given as goal

abbrev pub invariant-loop-column : goal.invariant-loop-column
invariant-loop-column l =
    map named_entry l.named.items ≡ filter (λ p. not (has_zero p.0.name)) (map named_entry (take l.column-index l.columns))
