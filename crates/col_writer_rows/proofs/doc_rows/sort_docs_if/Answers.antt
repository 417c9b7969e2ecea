use Rattle.std.proofs.Common.{ap, sum, ◌∙◌}
use Rattle.col_writer_rows.specs.Counted.{counts_of_rows, steps_from}
use Rattle.col_writer_rows.proofs.RowLemmas.{sum-counts}
use Rattle.col_writer_rows.proofs.SortLemmas.{unsorted-is, sorted-rows-is, sorted_rows}
use Rattle.col_writer_rows.proofs.StepLemmas.{sum-steps, sorted-steps}
use Rattle.col_writer_rows.proofs.doc_rows.sort_docs_if.Goals as goal

pub returns-then-not-sorts : goal.returns-then-not-sorts
returns-then-not-sorts c =
    unsorted-is c.args.sorts (counts_of_rows c.args.num_rows c.args.docs.now) c.args.numbers.now c.if-not-sorts.true
    (sum-counts c.args.num_rows c.args.docs.now c.never_fall.ensures c.requires.below ∙ c.requires.beside)

pub sort_rows-requires-clause-counted : goal.sort_rows-requires-clause-counted
sort_rows-requires-clause-counted c =
    ap sum (c.deref-2.ensures.value ∙ c.in_ok-lengths.ensures
    ∙ ap (steps_from 0) (c.deref.ensures.value ∙ c.in_ok-_rows.ensures.1))
    ∙ sum-steps (counts_of_rows c.args.num_rows c.args.docs.now)
    ∙ sum-counts c.args.num_rows c.args.docs.now c.never_fall.ensures c.requires.below ∙ c.requires.beside

pub returns : goal.returns
returns c =
    let cs = counts_of_rows c.args.num_rows c.args.docs.now in
    c.sort_rows.ensures
    ∙ ap (λ ks. sorted_rows ks c.args.numbers.now) (c.deref-2.ensures.value ∙ c.in_ok-lengths.ensures
    ∙ ap (steps_from 0) (c.deref.ensures.value ∙ c.in_ok-_rows.ensures.1))
    ∙ sorted-steps cs c.args.numbers.now ∙ sorted-rows-is c.args.sorts cs c.args.numbers.now c.if-not-sorts.false
