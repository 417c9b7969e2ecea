use Rattle.std.proofs.Common.{sym, ap, ◌∙◌}
use Rattle.col_dynamic.specs.Dynamic.{type_of, content_of}
use Rattle.col_program.specs.Queries.{is_kind}
use Rattle.col_questions.specs.Steps.{end_of}
use Rattle.col_places.proofs.RangeLemmas.{other-low, other-high}
use Rattle.col_places.proofs.ends.put_rows.Goals as goal

pub returns-then-not-is_kind : goal.returns-then-not-is_kind
returns-then-not-is_kind c =
    let lo = end_of c.args.lo.now in
    let other = ap (λ t. is_kind t lo) (sym c.column_type-column_type.ensures) ∙ sym c.is_kind.ensures ∙ c.if-not-is_kind.true in
    c.clear.ensures.items
    ∙ sym (other-low (type_of c.args.column.now) lo (end_of c.args.hi.now) (content_of c.args.column.now) c.args.num_rows other)

pub returns-then-not-is_kind-2 : goal.returns-then-not-is_kind-2
returns-then-not-is_kind-2 c =
    let hi = end_of c.args.hi.now in
    let other = ap (λ t. is_kind t hi) (sym c.column_type-column_type.ensures) ∙ sym c.is_kind-2.ensures ∙ c.if-not-is_kind-2.true in
    c.clear-then-not-is_kind-2.ensures.items
    ∙ sym (other-high (type_of c.args.column.now) (end_of c.args.lo.now) hi (content_of c.args.column.now) c.args.num_rows other)
