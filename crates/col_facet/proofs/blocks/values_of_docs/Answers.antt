use Rattle.std.proofs.Common.{◌-◌, sym, ◌∙◌, ap, arith}
use Rattle.col_column.specs.Columns.{rows_of_values}
use Rattle.col_facet.specs.Values.{values_in_rows}
use Rattle.col_facet.proofs.blocks.values_of_docs.Goals as goal
use Rattle.col_facet.proofs.DocLemmas.{rising-part, below-part, values-next, values-none}
use Rattle.std.proofs.lemmas.List.{take_all}

pub push_values-requires-clause-rising : goal.push_values-requires-clause-rising
push_values-requires-clause-rising g c =
    rising-part (c.block_end-next.result - c.loop-at.at) c.loop-at.at c.args.docs.now c.requires.rising

pub push_values-requires-clause-below : goal.push_values-requires-clause-below
push_values-requires-clause-below g c =
    below-part _ (c.block_end-next.result - c.loop-at.at) c.loop-at.at c.args.docs.now c.requires.below

pub loop-at-init : goal.loop-at-init
loop-at-init g c = (
  omega arith,
  c.new-values.ensures.items
      ∙ sym (values-none (rows_of_values g.V.ColumnValues.values c.args.column.now)),
)

pub loop-at-preserved : goal.loop-at-preserved
loop-at-preserved g c = (
  omega (arith, c.block_end-next.ensures.within),
  values-next (rows_of_values g.V.ColumnValues.values c.args.column.now) c.args.docs.now c.loop-at.at c.block_end-next.result
      c.loop-at.values.items c.push_values.new.values.items (omega (arith, c.block_end-next.ensures.after)) c.loop-at.invariant.1
      c.in_ok-push_values.ensures,
)

pub returns : goal.returns
returns g c =
    c.loop-at.invariant.1
    ∙ ap (values_in_rows (rows_of_values g.V.ColumnValues.values c.args.column.now))
    (take_all c.loop-at.at c.args.docs.now c.loop-at-test.false)
