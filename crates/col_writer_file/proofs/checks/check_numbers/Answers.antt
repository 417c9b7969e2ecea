use Rattle.std.proofs.Common.{sym, ap, ◌∙◌, Some}
use Rattle.std.specs.Prelude.{option_map}
use Rattle.col_model.specs.Category as categories
use Rattle.col_model.specs.Written.{is_past_ties}
use Rattle.col_writer_columns.proofs.TypingLemmas.{number-kind}
use Rattle.col_model.specs.Category.{category_of}
use Rattle.col_types.specs.Kinds.{numerical_kind_of}
use Rattle.col_writer_file.proofs.CheckLemmas.{type-none, type-past, type-ok, codes-small, number-no_address}
use Rattle.col_writer_file.proofs.checks.check_numbers.Goals as goal

pub returns-in_default-clause-gives : goal.returns-in_default-clause-gives
returns-in_default-clause-gives c =
    type-none categories.numerical c.args.column.now c.args.order.now
    (sym c.numerical_type.ensures ∙ ap (option_map numerical_kind_of) c.in_default.is)

pub returns-then-starts_past_ties-clause-gives : goal.returns-then-starts_past_ties-clause-gives
returns-then-starts_past_ties-clause-gives c =
    type-past categories.numerical c.args.column.now c.args.order.now (numerical_kind_of c.in-Some.numerical_type)
    (sym c.numerical_type.ensures ∙ ap (option_map numerical_kind_of) c.in-Some.is)
    (ap (λ k. is_past_ties k c.args.column.now.tie_start) (sym c.num_rows.ensures) ∙ sym c.starts_past_ties.ensures
    ∙ c.if-starts_past_ties.true)

pub returns-clause-gives : goal.returns-clause-gives
returns-clause-gives c =
    let e = c.args.column.now in
    let same = c.from.ensures in
    type-ok categories.numerical e c.args.order.now c.from.result
    (sym c.numerical_type.ensures ∙ ap (option_map numerical_kind_of) c.in-Some.is ∙ ap Some (sym same))
    (ap (λ k. is_past_ties k e.tie_start) (sym c.num_rows.ensures) ∙ sym c.starts_past_ties.ensures ∙ c.if-starts_past_ties.false)
    (codes-small _ e c.args.order.now c.codes-codes.result.now c.num_values-num_values.result
    (λ p. number-no_address c.in-Some.numerical_type (sym same ∙ p)) c.codes-codes.ensures
    c.documents_have_rows.ensures.rows c.documents_have_rows.ensures.few c.num_values-num_values.ensures.value
    c.num_values-num_values.ensures.few)

pub returns-clause-category : goal.returns-clause-category
returns-clause-category c = ap category_of c.from.ensures ∙ number-kind c.in-Some.numerical_type
