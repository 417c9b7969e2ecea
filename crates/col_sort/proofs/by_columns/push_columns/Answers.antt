use Rattle.col_sort.proofs.ColumnLemmas.{columns-next, columns-end}
use Rattle.col_sort.proofs.by_columns.push_columns.Goals as goal

pub loop-segment-preserved : goal.loop-segment-preserved
loop-segment-preserved g c =
    columns-next g.K.ColumnKey.keys c.args.columns.now c.args.counts.now c.loop-segment.segment c.index-columns-segment.result
    c.loop-segment.rows c.push_segment.new.rows _ c.requires.long c.loop-segment-test.true c.index-columns-segment.is
    c.loop-segment.invariant c.in_ok-push_segment.ensures

pub returns : goal.returns
returns g c =
    columns-end g.K.ColumnKey.keys c.args.columns.now c.args.counts.now c.loop-segment.segment c.loop-segment.rows _
    c.loop-segment-test.false c.loop-segment.invariant
