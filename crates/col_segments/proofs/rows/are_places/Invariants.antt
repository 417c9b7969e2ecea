use Rattle.std.proofs.Common.{◌≡◌, drop}
use Rattle.col_segments.specs.Segments.{are_places}
use Rattle.col_segments.proofs.rows.are_places.Given as goal

abbrev pub invariant-loop-id : goal.invariant-loop-id
invariant-loop-id l = are_places 0 l.num_rows l.ids ≡ are_places l.next l.num_rows (drop l.id-index l.ids)
