use Rattle.std.proofs.Common.{◌∙◌, ap, sym, ◌≡◌, length, ◌-◌, take, subst, Err, List}
use Rattle.std.proofs.lemmas.Result.{err_from_is_err_and}
use Rattle.col_model.specs.Recording.{forces_other}
use Rattle.col_model.specs.Table.{number}
use Rattle.col_writer_columns.specs.Numerical.{IsSummary, numerical_records}
use Rattle.col_model.specs.Written.{Record}
use Rattle.col_writer_columns.specs.Compatible.{accepted_with}
use Rattle.col_writer_columns.specs.declared.compatible_types.CompatibleNumericalTypes.{CompatibleNumericalTypes}
use Rattle.col_types.specs.Numbers.{number_of}
use Rattle.col_writer_columns.specs.Values.{value_type}
use Rattle.col_writer_rows.proofs.CutLemmas.{before_last}
use Rattle.col_writer_columns.proofs.PostedLemmas.{both_more}
use Rattle.col_writer_columns.proofs.NumericalLemmas.{free_of, forced-answers, refused-answers, recorded-answers, records-with, posted-value, summary-push, still-tied}
use Rattle.col_writer_columns.proofs.numerical_column_writer.NumericalColumnWriter.record_numerical_value.Goals as goal

pub returns-in_err-accept_value : goal.returns-in_err-accept_value
returns-in_err-accept_value c =
    let p = err_from_is_err_and c.from_residual.result c.from_residual.ensures.1 in
    let t = value_type c.args.value in
    let refused = c.in_err-accept_value.ensures.refused in
    forced-answers c.args.self.now c.args.doc t (number (number_of c.args.value)) c.from_residual.result p.0 p.1 (p.2 ∙ refused)
    (ap (λ e. forces_other e.forced t) (sym c.self.view_is) ∙ c.in_err-accept_value.ensures.forced_type.0 (ap Err refused))

pub returns-in-Err : goal.returns-in-Err
returns-in-Err c =
    let free = free_of _ _ _ c.in_ok-accept_value.ensures.forced_type in
    let kept : c.pop.new.self ≡ c.self.inside.types =
    c.pop.ensures ∙ ap (λ r. take (length r - 1) r) c.in_ok-push.ensures.ok
    ∙ before_last c.self.inside.types _ in
    refused-answers c.self.inside.accepted c.self.inside.types c.pop.new.self c.self.inside.column c.record.new.self
    c.self.inside.tie_start c.args.self.now c.args.doc (value_type c.args.value)
    (number (number_of c.args.value)) c.code_of.result c.in-Err.refusal
    (record { is = c.self.view_is; many = c.self.invariant.many }) free c.in-Err.ensures kept

pub invariant_of-self-2 : goal.invariant_of-self-2
invariant_of-self-2 c =
    let free = free_of _ _ _ c.in_ok-accept_value.ensures.forced_type in
    let records = records-with c.self.inside.types c.push.new.self c.self.inside.column c.record.new.self c.args.doc
    c.args.value c.code_of.result _ c.self.invariant.many c.numerical_type.ensures c.code_of.ensures
    c.in_ok-push.ensures.ok (posted-value _ _ _ _ c.in_default.ensures.ok) in
    let more : length c.push.new.self ≡ length c.record.new.self =
    both_more c.self.inside.types c.push.new.self c.self.inside.column c.record.new.self _ _ c.self.invariant.many
    c.in_ok-push.ensures.ok (posted-value _ _ _ _ c.in_default.ensures.ok) in
    let P : List Record → Type 0 = λ r. IsSummary (accepted_with c.self.inside.accepted c.args.value) r in
    let Q : CompatibleNumericalTypes → Type 0 = λ a. IsSummary a (numerical_records c.push.new.self c.record.new.self) in
    record {
      many = more;
      tied = still-tied c.self.inside.tie_start c.self.inside.accepted c.accept_value.new.self
          c.args.value c.self.invariant.tied c.in_ok-accept_value.ensures.ok;
      summary = subst Q
          (sym c.in_ok-accept_value.ensures.ok) (subst P (sym records) (summary-push c.self.inside.accepted
          (numerical_records c.self.inside.types c.self.inside.column) c.args.doc c.args.value
          c.self.invariant.summary free));
    }

pub returns : goal.returns
returns c =
    let free = free_of _ _ _ c.in_ok-accept_value.ensures.forced_type in
    recorded-answers c.self.inside.accepted c.self.inside.types c.push.new.self c.self.inside.column
    c.record.new.self c.self.inside.tie_start c.args.self.now c.args.doc c.args.value c.code_of.result _
    c.accept_value.new.self
    (record { is = c.self.view_is; many = c.self.invariant.many }) free c.numerical_type.ensures c.code_of.ensures
    c.in_ok-push.ensures.ok c.in_default.ensures.ok c.in_ok-accept_value.ensures.ok
