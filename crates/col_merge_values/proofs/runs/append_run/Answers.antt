use Rattle.std.proofs.Common.{◌+◌, ◌<◌, ◌++◌, [], ◌∷◌, slice_range, arith}
use Rattle.col_column.proofs.FirstLemmas.{range_step}
use Rattle.col_merge_values.proofs.AppendLemmas.{part-appended}
use Rattle.col_merge_values.proofs.runs.append_run.Goals as goal
use Rattle.col_merge_values.specs.Merges.{segment_values}

pub loop-idx-preserved : goal.loop-idx-preserved
loop-idx-preserved g c =
    let xs = segment_values (g.S.Segments.columns c.args.segments.now) c.args.segment in
    let i = c.loop-idx.idx in
    let e = c.args.end in
    let below : i < e = omega (arith, c.loop-idx-test.true) in
    let split = range_step xs i e c.get_val.result c.get_val.ensures below c.requires.within in
    record {
      within = omega (arith, below);
      left =
          part-appended c.loop-idx.values.items c.push.new.self.items (c.get_val.result ∷ [])
          (slice_range xs (i + 1) e) (slice_range xs i e) (c.args.values.now.items ++ slice_range xs c.args.start e)
          c.in_ok-push.ensures.items split c.loop-idx.invariant.left;
    }
