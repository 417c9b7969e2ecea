use Rattle.std.proofs.Common.{◌≡◌, ◌==◌, not, IfOk, sym, ◌∙◌, subst}
use Rattle.col_column.specs.Columns.{row_count}
use Rattle.col_index.specs.Indexes.{shape_of}
use Rattle.col_index.specs.declared.column_index.ColumnIndex.{ColumnIndex}
use Rattle.col_index.proofs.CountLaws.{length-set_counts}
use Rattle.col_model.specs.Positions.{count_in}
use Rattle.col_query.specs.Sets.{IsSetOf}
use Rattle.col_query.proofs.find.docs_counted.Goals as goal

pub returns-in-Empty : goal.returns-in-Empty
returns-in-Empty c =
    λ n rows.
    subst (λ i. IsSetOf c.args.num_docs (λ d. not (count_in (shape_of i) d == 0)) c.none.result) (sym c.in-Empty.is)
    (c.none.ensures c.args.num_docs)

pub returns-in-Full : goal.returns-in-Full
returns-in-Full c =
    λ n rows.
    subst (λ i. IsSetOf c.args.num_docs (λ d. not (count_in (shape_of i) d == 0)) c.all.result) (sym c.in-Full.is)
    (c.all.ensures c.args.num_docs)

pub returns-in-Optional : goal.returns-in-Optional
returns-in-Optional c =
    λ n.
    let m = c.args.num_docs in
    let P : ColumnIndex → Type 0 = λ i. row_count (shape_of i) n ≡ m
    → IfOk c.docs_of_optional.result (IsSetOf m (λ d. not (count_in (shape_of i) d == 0))) in
    subst P (sym c.in-Optional.is) (λ rows. c.docs_of_optional.ensures (sym (length-set_counts c.in-Optional.index) ∙ rows))

pub returns-in-Multivalued : goal.returns-in-Multivalued
returns-in-Multivalued c =
    λ n.
    let m = c.args.num_docs in
    let P : ColumnIndex → Type 0 = λ i. row_count (shape_of i) n ≡ m
    → IfOk c.docs_of_multivalued.result (IsSetOf m (λ d. not (count_in (shape_of i) d == 0))) in
    subst P (sym c.in-Multivalued.is) c.docs_of_multivalued.ensures
