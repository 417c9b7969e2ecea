use Rattle.std.proofs.Common.{◌+◌, ◌<◌, ◌++◌, [], ◌∷◌, drop, length, ap, ◌∙◌, arith}
use Rattle.std.proofs.lemmas.List.{drop_more}
use Rattle.std.proofs.lemmas.Option.{get_or_from_slice_get}
use Rattle.col_merge_values.proofs.AppendLemmas.{part-appended}
use Rattle.col_merge_values.proofs.segments.Segments.append_segment.Goals as goal
use Rattle.col_merge_values.specs.Merges.{segment_values}

pub loop-idx-preserved : goal.loop-idx-preserved
loop-idx-preserved g c =
    let xs = segment_values (g.Self.Segments.columns c.args.self.now) c.args.segment in
    let i = c.loop-idx.idx in
    let x = c.get_val.result in
    let below : i < length xs = omega (arith, c.loop-idx-test.true, c.num_vals-idx-end.ensures) in
    let split = drop_more xs i x below ∙ ap (λ y. y ∷ drop (i + 1) xs) (get_or_from_slice_get xs i x x c.get_val.ensures) in
    record {
      left =
          part-appended c.loop-idx.values.items c.push.new.self.items (x ∷ []) (drop (i + 1) xs) (drop i xs)
          (c.args.values.now.items ++ xs) c.in_ok-push.ensures.items split c.loop-idx.invariant.left;
    }
