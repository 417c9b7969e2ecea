use Rattle.std.proofs.Common.{ℕ, ◌+◌, ◌++◌, List, map, sym, ◌∙◌, ap, arith}
use Rattle.col_column.specs.Columns.{rows_of_values}
use Rattle.col_facet.proofs.addresses.distances_of_docs.Goals as goal
use Rattle.col_facet.proofs.DocLemmas.{values-next, values-none}

pub loop-at-init : goal.loop-at-init
loop-at-init g c = (
  omega arith,
  ap (map (λ n. c.args.addresses.now + n)) c.new-distances.ensures.items
      ∙ sym (values-none (rows_of_values g.V.ColumnValues.values c.args.column.now)),
)

pub loop-at-preserved : goal.loop-at-preserved
loop-at-preserved g c =
    let numbers : List ℕ → List ℕ = map (λ n. c.args.addresses.now + n) in (
      omega (arith, c.in_ok-next.ensures.behind.1),
      values-next (rows_of_values g.V.ColumnValues.values c.args.column.now) c.args.docs.now c.loop-at.at c.in_ok-next.next
          (numbers c.loop-at.distances.items) (numbers c.push_distances.new.distances.items)
          (omega (arith, c.in_ok-next.ensures.behind.0)) c.loop-at.invariant.1
          (c.in_ok-push_distances.ensures c.if-not-branch.false
          ∙ ap (λ vs. numbers c.loop-at.distances.items ++ vs)
          (c.as_slice.ensures.value ∙ c.in_ok-next.ensures.values)),
    )
