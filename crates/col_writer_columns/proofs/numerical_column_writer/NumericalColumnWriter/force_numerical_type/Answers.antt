use Rattle.std.proofs.Common.{◌∙◌, ap, sym, false, Some}
use Rattle.std.specs.Prelude.{not}
use Rattle.col_model.specs.Recording.{denies}
use Rattle.col_types.specs.Kinds.{numerical_kind_of}
use Rattle.col_writer_columns.proofs.TypingLemmas.{denied-accepted, forced-numbers, typed-answers, denied-answers}
use Rattle.col_writer_columns.proofs.numerical_column_writer.NumericalColumnWriter.force_numerical_type.Goals as goal

pub returns-then-not-is_type_accepted : goal.returns-then-not-is_type_accepted
returns-then-not-is_type_accepted c =
    let t = c.args.numerical_type in
    denied-answers c.args.self.now (numerical_kind_of t) false
    (ap (λ e. denies e (numerical_kind_of t)) (sym c.self.view_is) ∙ denied-accepted c.self.inside.accepted
    c.self.inside.types c.self.inside.column c.self.inside.tie_start t c.self.invariant.summary
    ∙ ap not (sym c.is_type_accepted.ensures ∙ c.if-not-is_type_accepted.true))

pub invariant_of-self : goal.invariant_of-self
invariant_of-self c =
    forced-numbers c.self.inside.accepted c.self.inside.types c.self.inside.column c.self.inside.tie_start
    c.args.numerical_type c.self.invariant (sym c.is_type_accepted.ensures ∙ c.if-not-is_type_accepted.false)

pub returns : goal.returns
returns c =
    let t = c.args.numerical_type in
    typed-answers c.args.self.now _ (numerical_kind_of t) false
    (ap (λ e. denies e (numerical_kind_of t)) (sym c.self.view_is) ∙ denied-accepted c.self.inside.accepted
    c.self.inside.types c.self.inside.column c.self.inside.tie_start t c.self.invariant.summary
    ∙ ap not (sym c.is_type_accepted.ensures ∙ c.if-not-is_type_accepted.false))
    (λ i. record {
      records = (c.self.view_is i).records;
      forced = Some (numerical_kind_of t);
      sorts = false;
      tie_start = (c.self.view_is i).tie_start;
    })
