use Rattle.std.proofs.Common.{◌≡◌}
use Rattle.col_common.specs.Ascending.{differences}
use Rattle.col_model.specs.Positions.{rank, rows_with_value}
use Rattle.col_index.proofs.multivalued_index_v1.MultiValueIndexV1.first_from.Given as goal

abbrev pub invariant-loop-passed : goal.invariant-loop-passed
invariant-loop-passed l = record { ranked : rank (rows_with_value (differences l.self)) l.behind ≡ l.passed }
