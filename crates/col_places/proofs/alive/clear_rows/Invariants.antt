use Rattle.std.proofs.Common.{◌≡◌}
use Rattle.col_places.specs.Bits.{clear_rows}
use Rattle.col_places.proofs.alive.clear_rows.Given as goal

abbrev pub invariant-loop-row : goal.invariant-loop-row
invariant-loop-row l = l.rows.items ≡ clear_rows l.words l.row
