use Rattle.std.proofs.Common.{◌≡◌, ◌+◌, ◌<◌, ◌^◌, length, ◌∙◌, arith, rules}
use Rattle.col_column.specs.Columns.{first_at, rows_of_values}
use Rattle.col_sort.proofs.BlockLemmas.{block-next, block-long, blocks-end}
use Rattle.col_sort.proofs.firsts.push_firsts.Goals as goal

pub push_block-requires : goal.push_block-requires
push_block-requires g c =
    let next = c.block_end-next.result in
    let long : c.loop-at.at + length c.as_slice.result.now ≡ next =
    block-long (first_at (rows_of_values g.V.ColumnValues.values c.args.column.now)) c.as_slice.result.now c.loop-at.at
    next (omega (arith, c.block_end-next.ensures.after)) (c.as_slice.ensures.value ∙ c.in_ok-read_firsts.ensures) in
    let few : next < 2 ^ 32 = search rules in
    omega (arith, long, few)

pub loop-at-preserved : goal.loop-at-preserved
loop-at-preserved g c =
    let column = c.args.column.now in (
      c.block_end-next.ensures.within,
      block-next (g.M.KeyOf.key c.args.keys.now) column.shape (g.V.ColumnValues.values column.values) c.loop-at.rows
          c.push_block.new.rows _ c.args.segment_ord c.loop-at.at c.block_end-next.result
          c.num_docs-num_docs.result c.as_slice.result.now c.num_docs-num_docs.ensures
          (omega (arith, c.block_end-next.ensures.after)) c.block_end-next.ensures.within
          (c.as_slice.ensures.value ∙ c.in_ok-read_firsts.ensures) c.in_ok-push_block.ensures c.loop-at.invariant.1,
    )

pub returns : goal.returns
returns g c =
    let column = c.args.column.now in
    blocks-end (g.M.KeyOf.key c.args.keys.now) column.shape (g.V.ColumnValues.values column.values) c.loop-at.rows _
    c.args.segment_ord c.loop-at.at c.num_docs-num_docs.result c.num_docs-num_docs.ensures c.loop-at-test.false
    c.loop-at.invariant.1
