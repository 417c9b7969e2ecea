use Rattle.std.proofs.Common.{◌≡◌, ◌+◌, ◌-◌, ◌<◌, ◌≤◌, ◌∙◌, ap, sym, subst, arith}
use Rattle.std.specs.List.{AllByRecursion, range_with_len}
use Rattle.std.proofs.lemmas.List.{take_at}
use Rattle.col_column.specs.Columns.{num_docs_in}
use Rattle.col_sort.proofs.BlockLemmas.{range-below}
use Rattle.col_sort.proofs.firsts.read_firsts.Goals as goal

pub first_vals-requires-clause-below : goal.first_vals-requires-clause-below
first_vals-requires-clause-below g c =
    let count = num_docs_in g.V.ColumnValues.values c.args.column.now in
    let docs : c.as_slice.result.now ≡ range_with_len c.args.start (c.args.end - c.args.start) =
    c.as_slice.ensures.value ∙ take_at c.number_docs.new.docs _ _ (c.number_docs.auto.docs ∙ c.as_mut_slice.ensures.len)
    ∙ c.number_docs.ensures ∙ ap (range_with_len c.args.start) (c.as_mut_slice.ensures.len ∙ c.in_ok-resize.ensures.len) in
    let within : c.args.start + (c.args.end - c.args.start) ≤ count = omega (arith, c.requires.order, c.requires.within) in
    subst (AllByRecursion (λ x. x < count)) (sym docs) (range-below count c.args.start (c.args.end - c.args.start) within)
