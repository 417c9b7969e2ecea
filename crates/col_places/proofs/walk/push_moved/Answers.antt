use Rattle.std.proofs.Common.{arith}
use Rattle.col_places.proofs.WalkLemmas.{places-within}
use Rattle.col_places.proofs.walk.push_moved.Goals as goal

pub overflow_add-first : goal.overflow_add-first
overflow_add-first c =
    let below = places-within 0 c.args.num_rows c.args.rows.now c.loop-row.row-index c.requires.rows (omega (arith, c.loop-row-test.true))
    in
    omega (arith, below, c.requires.room)
