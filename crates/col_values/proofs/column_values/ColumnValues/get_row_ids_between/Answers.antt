use Rattle.std.proofs.Common.{◌+◌, ◌-◌, arith}
use Rattle.std.proofs.lemmas.Grind.{common_steps}
use Rattle.col_common.proofs.KeptLemmas.{kept_within}
use Rattle.col_values.specs.Values.{is_between}
use Rattle.col_values.proofs.HitLemmas.{hits_joined, kept_hits}
use Rattle.col_values.proofs.column_values.ColumnValues.get_row_ids_between.Goals as goal

pub loop-row-preserved : goal.loop-row-preserved
loop-row-preserved g c =
    let l = c.loop-row in
    let b = c.is_within.result in
    let start = c.loop-start.start in
    let test = is_between g.T.PartialOrd.partial_cmp c.args.low c.args.high in
    record {
      found =
          kept_hits test (g.Self.ColumnValues.values c.args.self.now) start (l.row - start) (l.row + 1 - start)
          l.row c.get_val-value.result b l.block l.found (omega arith) (omega arith) c.get_val-value.ensures
          c.is_within.ensures (omega arith) l.invariant.found;
      below = omega (arith, kept_within l.found (l.row - start) b (omega arith));
      room = grind (arith, common_steps);
    }

pub loop-start-preserved : goal.loop-start-preserved
loop-start-preserved g c =
    let from = c.args.rows.start in
    let start = c.loop-start.start in
    let row = c.loop-row.row in
    let test = is_between g.T.PartialOrd.partial_cmp c.args.low c.args.high in
    let joined = hits_joined test (g.Self.ColumnValues.values c.args.self.now) from (start - from) (row - start)
    start (start + c.min.result - from) (omega arith) (omega arith) in
    record {
      found = grind (arith, common_steps, joined, c.loop-row.invariant.found);
      after = omega arith;
      within = omega arith;
      room = c.loop-row.invariant.room;
    }
