use Rattle.std.proofs.Common.{◌+◌, ◌≤◌, ◌<◌, length, arith}
use Rattle.col_values.proofs.HitLemmas.{part_more}
use Rattle.col_values.proofs.column_values.ColumnValues.get_range.Goals as goal

pub loop-at-preserved : goal.loop-at-preserved
loop-at-preserved g c =
    let here : c.loop-at.at < length c.loop-at.output = omega arith in
    let within : c.args.start + length c.loop-at.output ≤ length (g.Self.ColumnValues.values c.args.self.now) = omega arith in
    part_more _ _ _ _ _ c.get_val.ensures here within c.loop-at.invariant
