use Rattle.std.proofs.Common.{◌∙◌, ap, sym, ◌≡◌, arith, to_z, of_z, w64}
use Rattle.std.specs.Prelude.{not}
use Rattle.std.proofs.lemmas.Int.{ints}
use Rattle.col_model.specs.ColumnType as types
use Rattle.col_model.specs.Recording.{denies}
use Rattle.col_types.specs.declared.numerical_type.NumericalType.TheVariants.{I64}
use Rattle.col_writer_columns.proofs.TypingLemmas.{denied-accepted, tied-answers, untied-answers, tied-entry, tied-numbers}
use Rattle.col_writer_columns.proofs.numerical_column_writer.NumericalColumnWriter.set_tie_start.Goals as goal

pub returns-then-not-is_type_accepted : goal.returns-then-not-is_type_accepted
returns-then-not-is_type_accepted c =
    untied-answers c.args.self.now c.args.start
    (ap (λ e. denies e types.i64) (sym c.self.view_is) ∙ denied-accepted c.self.inside.accepted c.self.inside.types
    c.self.inside.column c.self.inside.tie_start I64 c.self.invariant.summary
    ∙ ap not (sym c.is_type_accepted.ensures ∙ c.if-not-is_type_accepted.true))

pub invariant_of-self : goal.invariant_of-self
invariant_of-self c =
    tied-numbers c.self.inside.accepted c.self.inside.types c.self.inside.column c.self.inside.tie_start _
    c.self.invariant (sym c.is_type_accepted.ensures ∙ c.if-not-is_type_accepted.false)

pub returns : goal.returns
returns c =
    let same : to_z w64 (of_z w64 c.args.start) ≡ c.args.start = omega (arith, ints) in
    tied-answers c.args.self.now _ c.args.start
    (ap (λ e. denies e types.i64) (sym c.self.view_is) ∙ denied-accepted c.self.inside.accepted c.self.inside.types
    c.self.inside.column c.self.inside.tie_start I64 c.self.invariant.summary
    ∙ ap not (sym c.is_type_accepted.ensures ∙ c.if-not-is_type_accepted.false))
    (tied-entry c.self.inside.types c.self.inside.column c.self.inside.accepted c.self.inside.tie_start
    c.args.self.now c.args.start _ c.self.view_is same)
