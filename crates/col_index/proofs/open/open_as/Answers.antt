use Rattle.std.proofs.Common.{◌∙◌, ap, sym, ◌∷◌, option_map}
use Rattle.std.proofs.lemmas.Result.{err_from_is_err_and}
use Rattle.col_common.specs.Reading.{only_if}
use Rattle.col_model.specs.Index.{RowSet, row_set, shape, optional_shape, full_shape, set_counts}
use Rattle.col_model.specs.Table.{cardinality_code}
use Rattle.col_numbers.proofs.BlockReaderLemmas.{refuses-list}
use Rattle.col_index.specs.Opening.{multivalued_at}
use Rattle.col_index.specs.Versions.{version_number, cardinality_of}
use Rattle.col_index.proofs.ShapeLemmas.{shape-full, shape-optional, shape-multivalued}
use Rattle.col_index.proofs.open.open_as.Goals as goal

pub returns-then-not-is_empty-clause-answer : goal.returns-then-not-is_empty-clause-answer
returns-then-not-is_empty-clause-answer c =
    shape-full c.args.cardinality c.args.format_version c.args.bytes c.in-Full.is
    ∙ ap (λ b. only_if b full_shape) (sym c.if-not-is_empty.ensures)

pub returns-else-not-is_empty-clause-answer : goal.returns-else-not-is_empty-clause-answer
returns-else-not-is_empty-clause-answer c =
    shape-full c.args.cardinality c.args.format_version c.args.bytes c.in-Full.is
    ∙ ap (λ b. only_if b full_shape) (sym c.if-not-is_empty.ensures)

pub returns-in_err-open_optional_index-in-Optional-clause-answer : goal.returns-in_err-open_optional_index-in-Optional-clause-answer
returns-in_err-open_optional_index-in-Optional-clause-answer c =
    let p = err_from_is_err_and c.from_residual.result c.from_residual.ensures.1 in
    rw (p.1, p.2) (refuses-list c.in_err-open_optional_index-in-Optional.field-0.0
    (row_set (version_number c.args.format_version) c.args.bytes)
    (shape (cardinality_code (cardinality_of c.args.cardinality) ∷ c.args.bytes) (version_number c.args.format_version))
    (λ e. shape-optional c.args.cardinality c.args.format_version c.args.bytes c.in-Optional.is
    ∙ ap (option_map (λ (s : RowSet). optional_shape (set_counts s))) e)
    c.in_err-open_optional_index-in-Optional.ensures)

pub returns-in_err-open_multivalued_index-in-Multivalued-clause-answer :
    goal.returns-in_err-open_multivalued_index-in-Multivalued-clause-answer
returns-in_err-open_multivalued_index-in-Multivalued-clause-answer c =
    let after = c.from_residual-in_err-open_multivalued_index-in-Multivalued in
    let p = err_from_is_err_and after.result after.ensures.1 in
    rw (p.1, p.2) (refuses-list c.in_err-open_multivalued_index-in-Multivalued.field-0.0
    (multivalued_at (version_number c.args.format_version) c.args.bytes)
    (shape (cardinality_code (cardinality_of c.args.cardinality) ∷ c.args.bytes) (version_number c.args.format_version))
    (λ e. shape-multivalued c.args.cardinality c.args.format_version c.args.bytes c.in-Multivalued.is ∙ e)
    c.in_err-open_multivalued_index-in-Multivalued.ensures.answer)

pub returns-in_ok-open_optional_index-in-Optional-clause-answer : goal.returns-in_ok-open_optional_index-in-Optional-clause-answer
returns-in_ok-open_optional_index-in-Optional-clause-answer c =
    shape-optional c.args.cardinality c.args.format_version c.args.bytes c.in-Optional.is
    ∙ ap (option_map (λ (s : RowSet). optional_shape (set_counts s)))
    c.in_ok-open_optional_index-in-Optional.ensures

pub returns-in_ok-open_multivalued_index-in-Multivalued-clause-answer :
    goal.returns-in_ok-open_multivalued_index-in-Multivalued-clause-answer
returns-in_ok-open_multivalued_index-in-Multivalued-clause-answer c =
    shape-multivalued c.args.cardinality c.args.format_version c.args.bytes c.in-Multivalued.is
    ∙ c.in_ok-open_multivalued_index-in-Multivalued.ensures.answer
