use Rattle.std.proofs.Common.{◌+◌, ◌^◌, ◌<◌, ◌==◌, length, sym, ◌∙◌, ap, arith}
use Rattle.std.specs.List.{count_by}
use Rattle.std.proofs.lemmas.List.{take_all}
use Rattle.col_column.specs.Columns.{rows_of_values}
use Rattle.col_facet.specs.Values.{values_in_rows}
use Rattle.col_facet.proofs.counting.count_docs.Goals as goal
use Rattle.col_facet.proofs.DocLemmas.{values-none}
use Rattle.col_facet.proofs.CountingLemmas.{block-fits, block-counted}

pub tally-requires : goal.tally-requires
tally-requires g c =
    let few : length (g.V.ColumnValues.values c.args.column.now.values) < 2 ^ 32 =
    omega (arith, ap length (ap g.V.ColumnValues.values c.values.ensures), c.num_vals-count.ensures) in
    block-fits (λ i x. g.T.MonotonicallyMappableToU64.code x == c.args.base + i) c.loop-at.counts c.args.column.now.shape
    (g.V.ColumnValues.values c.args.column.now.values) c.args.docs.now c.loop-at.at c.in_ok-next.next c.as_slice.result.now
    c.values_are_counted.ensures few c.requires.rising c.requires.below (omega (arith, c.in_ok-next.ensures.behind.0))
    (c.as_slice.ensures.value ∙ c.in_ok-next.ensures.values) c.loop-at.invariant.1

pub loop-at-init : goal.loop-at-init
loop-at-init g c = (
  omega arith,
  λ i h. c.requires.none i
      ∙ ap (count_by (λ x. g.T.MonotonicallyMappableToU64.code x == c.args.base + i))
      (sym (values-none (rows_of_values g.V.ColumnValues.values c.args.column.now))),
)

pub loop-at-preserved : goal.loop-at-preserved
loop-at-preserved g c = (
  omega (arith, c.in_ok-next.ensures.behind.1),
  λ i h. block-counted (λ i x. g.T.MonotonicallyMappableToU64.code x == c.args.base + i) c.loop-at.counts c.tally.new.counts
      (rows_of_values g.V.ColumnValues.values c.args.column.now) c.args.docs.now c.loop-at.at c.in_ok-next.next c.as_slice.result.now
      (omega (arith, c.in_ok-next.ensures.behind.0))
      (c.as_slice.ensures.value ∙ c.in_ok-next.ensures.values) c.loop-at.invariant.1 c.tally.ensures i
      (omega (arith, h, c.tally.auto.counts)),
)

pub returns : goal.returns
returns g c =
    λ i h. c.loop-at.invariant.1 i (omega (arith, h, c.loop-at.auto.counts))
    ∙ ap (λ docs. count_by (λ x. g.T.MonotonicallyMappableToU64.code x == c.args.base + i)
    (values_in_rows (rows_of_values g.V.ColumnValues.values c.args.column.now) docs))
    (take_all c.loop-at.at c.args.docs.now c.loop-at-test.false)
