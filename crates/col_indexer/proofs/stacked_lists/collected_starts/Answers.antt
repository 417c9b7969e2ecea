use Rattle.std.proofs.Common.{◌++◌, [], ◌∷◌, refl, ap, ◌∙◌, arith}
use Rattle.col_indexer.specs.Counted.{ends_behind}
use Rattle.col_indexer.specs.Stacks.{index_segments, counts_from}
use Rattle.col_indexer.proofs.CollectedLemmas.{ends-appended, starts-front, ends-end}
use Rattle.col_indexer.proofs.StackedOffsetLemmas.{values-fit}
use Rattle.col_indexer.proofs.stacked_lists.collected_starts.Goals as goal

pub loop-segment-init : goal.loop-segment-init
loop-segment-init c =
    let s = index_segments c.args.column_indexes.now c.args.order.now in
    record {
      before = refl;
      whole =
          ap (λ items. items ++ ends_behind 0 (counts_from s 0))
          (c.in_ok-push.ensures.items ∙ ap (λ items. items ++ 0 ∷ []) c.in_ok-starts.ensures.items)
          ∙ starts-front s;
    }

pub push_ends-requires : goal.push_ends-requires
push_ends-requires c =
    values-fit c.args.column_indexes.now c.args.order.now c.loop-segment.segment _ _ _ c.requires.segments
    (omega (arith, c.loop-segment-test.true, c.num_segments-segment-end.ensures)) c.segment_num_rows-num_rows.ensures
    c.index-column_indexes-segment.is c.loop-segment.invariant.before

pub loop-segment-preserved : goal.loop-segment-preserved
loop-segment-preserved c =
    let values = c.from-before.ensures ∙ c.num_values.ensures in
    let more = ends-appended c.args.column_indexes.now c.args.order.now c.loop-segment.segment _ _ _ _
    c.loop-segment.starts.items _ c.requires.segments
    (omega (arith, c.loop-segment-test.true, c.num_segments-segment-end.ensures)) c.segment_num_rows-num_rows.ensures
    c.index-column_indexes-segment.is values c.loop-segment.invariant.before c.in_ok-push_ends.ensures in
    record { before = more.0; whole = more.1 ∙ c.loop-segment.invariant.whole }

pub returns : goal.returns
returns c =
    let s = index_segments c.args.column_indexes.now c.args.order.now in
    ends-end s c.loop-segment.segment c.loop-segment.before c.loop-segment.starts.items c.requires.segments
    (omega (arith, c.loop-segment-test.false, c.num_segments-segment-end.ensures))
    ∙ c.loop-segment.invariant.whole
