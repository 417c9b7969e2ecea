use Rattle.std.proofs.Common.{suc, ◌≡◌, ◌+◌, [], ◌∷◌, length, slice_get, ap, sym, ◌∙◌, arith}
use Rattle.std.specs.List.{range_with_len}
use Rattle.std.proofs.lemmas.Option.{slice_get_past}
use Rattle.col_index.specs.Indexes.{shape_of}
use Rattle.col_indexer.specs.Counted.{counts_in}
use Rattle.col_model.specs.Positions.{rows_with_value}
use Rattle.col_indexer.proofs.UniformLemmas.{starts_as, starts-zeros, starts-ones, starts-set, zero-hint}
use Rattle.col_indexer.proofs.stacked.end_at.Goals as goal

pub returns-in-Empty-clause-end : goal.returns-in-Empty-clause-end
returns-in-Empty-clause-end c =
    sym (ap (λ starts. slice_get starts (c.args.place + 1))
    (starts_as c.args.num_rows c.args.column_index.now _ _ c.in-Empty.is (starts-zeros c.args.num_rows))
    ∙ slice_get_past (0 ∷ []) (c.args.place + 1) (omega arith))

pub returns-in-Full-clause-end : goal.returns-in-Full-clause-end
returns-in-Full-clause-end c =
    let many : c.args.num_rows + 1 ≡ suc c.args.num_rows = omega arith in
    c.single_end.ensures.end
    ∙ ap (λ n. slice_get (range_with_len 0 n) (c.args.place + 1)) many
    ∙ sym (ap (λ starts. slice_get starts (c.args.place + 1))
    (starts_as c.args.num_rows c.args.column_index.now _ _ c.in-Full.is (starts-ones c.args.num_rows)))

pub returns-in-Full-clause-hint : goal.returns-in-Full-clause-hint
returns-in-Full-clause-hint c =
    zero-hint (rows_with_value (counts_in c.args.num_rows (shape_of c.args.column_index.now))) (c.args.place + 1)
    c.single_end.result c.single_end.ensures.hint

pub returns-in-Optional-clause-end : goal.returns-in-Optional-clause-end
returns-in-Optional-clause-end c =
    let many : c.num_non_nulls.result + 1 ≡ suc (length c.in-Optional.index.rows) = omega (arith, c.num_non_nulls.ensures) in
    c.single_end-in-Optional.ensures.end
    ∙ ap (λ n. slice_get (range_with_len 0 n) (c.args.place + 1)) many
    ∙ sym (ap (λ starts. slice_get starts (c.args.place + 1)) (starts_as c.args.num_rows c.args.column_index.now _ _
    c.in-Optional.is (starts-set c.in-Optional.index c.rows_rise.ensures)))

pub returns-in-Optional-clause-hint : goal.returns-in-Optional-clause-hint
returns-in-Optional-clause-hint c =
    zero-hint (rows_with_value (counts_in c.args.num_rows (shape_of c.args.column_index.now))) (c.args.place + 1)
    c.single_end-in-Optional.result c.single_end-in-Optional.ensures.hint
