-- The terms that some row has are the different cells.
use Rattle.std.proofs.Common.{refl, subst}
use Rattle.col_model.specs.ColumnType as types
use Rattle.col_column.specs.Columns.{IsCounted}
use Rattle.col_dynamic.specs.Dynamic.{dynamic_shape, value_count}
use Rattle.col_dynamic.specs.declared.dynamic_column.DynamicColumn.TheVariants as columns
use Rattle.col_look.proofs.terms.distinct_terms.Goals as goal
use Rattle.col_look.proofs.TermLemmas.{distinct-of-terms}

pub returns-in_ok-terms_with_rows-in-Bytes : goal.returns-in_ok-terms_with_rows-in-Bytes
returns-in_ok-terms_with_rows-in-Bytes c =
    let texts = c.in-Bytes.column in
    let counted = subst (λ x. IsCounted (dynamic_shape x) (value_count x)) c.in-Bytes.is c.values_are_counted.ensures in
    distinct-of-terms _ types.bytes c.args.column.now (columns.Bytes texts) texts texts c.in-Bytes.is refl refl refl refl
    counted c.in_ok-terms_with_rows-in-Bytes.ensures

pub returns-in_ok-terms_with_rows-in-Str : goal.returns-in_ok-terms_with_rows-in-Str
returns-in_ok-terms_with_rows-in-Str c =
    let texts = c.in-Str.column in
    let counted = subst (λ x. IsCounted (dynamic_shape x) (value_count x)) c.in-Str.is c.values_are_counted.ensures in
    distinct-of-terms _ types.str c.args.column.now (columns.Str texts) texts c.bytes_column.result.now c.in-Str.is refl refl
    refl c.bytes_column.ensures counted c.in_ok-terms_with_rows-in-Str.ensures
