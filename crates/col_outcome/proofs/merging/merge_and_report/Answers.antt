use Rattle.std.proofs.Common.{map, option_map, sym, ap, ◌∙◌}
use Rattle.std.proofs.lemmas.Result.{err_from_is_err_and}
use Rattle.col_questions.specs.Questions.{question_of}
use Rattle.col_lines.specs.RowOrders.{row_order_of}
use Rattle.col_script.specs.Segments.{segment_of}
use Rattle.col_merge_plan.specs.Slots.{required_of}
use Rattle.col_common.proofs.OnOkLemmas.{same-error}
use Rattle.col_outcome.specs.Parts.{handed_in}
use Rattle.col_program.specs.Outcome.{segment_table}
use Rattle.col_model.specs.Refusal.{each_ok}
use Rattle.col_outcome.specs.declared.merging.FileAndReport.{FileAndReport}
use Rattle.col_outcome.proofs.DecidedLemmas.{merge-known, segments-merged, segments-stopped}
use Rattle.col_outcome.proofs.MakeLemmas.{known-fault, script-made}
use Rattle.col_outcome.proofs.PartLemmas.{all_keep-none, kept-seen, rose-seen}
use Rattle.col_outcome.proofs.merging.merge_and_report.Goals as goal

pub returns-in_err-files-clause-read_fault : goal.returns-in_err-files-clause-read_fault
returns-in_err-files-clause-read_fault g c = λ s is e.
    let p = err_from_is_err_and c.from_residual.result c.from_residual.ensures.1 in
    absurd (known-fault _ _
    (c.in_err-files.ensures s.segments (is.segments ∙ ap (map segment_of) (sym c.deref.ensures.value))).refused
    (sym p.2 ∙ same-error p.0 _ (sym p.1 ∙ e)))

pub returns-clause-made : goal.returns-clause-made
returns-clause-made g c = λ s is.
    script-made g.H.FileHandle.seen c.args.inputs.now.items
    (handed_in g.H.FileHandle.seen c.merge_inputs.new.inputs.items) s c.args.short
    (map question_of c.args.script.questions.items) c.in_ok-files.files.items (required_of c.args.script.required.items)
    (option_map row_order_of c.args.script.order) c.merge_inputs.result
    (record {
      ok =
          (c.in_ok-files.ensures s.segments (is.segments ∙ ap (map segment_of) (sym c.deref.ensures.value))).ok;
      refused = tt;
    }) is.required is.order is.questions
    (rw (c.deref-2.ensures.value, c.deref-3.ensures.value, c.deref-4.ensures.value) at c.merge_inputs.ensures)

pub returns-clause-known : goal.returns-clause-known
returns-clause-known g c = λ s is. merge-known c.merge_inputs.result c.merge_inputs.ensures.known

pub returns-in_err-files-clause-segments : goal.returns-in_err-files-clause-segments
returns-in_err-files-clause-segments g c = λ s is.
    let p = err_from_is_err_and c.from_residual.result c.from_residual.ensures.1 in
    rw (p.1, p.2) (segments-stopped FileAndReport (each_ok segment_table s.segments) _
    (c.in_err-files.ensures s.segments (is.segments ∙ ap (map segment_of) (sym c.deref.ensures.value))).refused)

pub returns-clause-segments : goal.returns-clause-segments
returns-clause-segments g c = λ s is.
    let made = (c.in_ok-files.ensures s.segments (is.segments ∙ ap (map segment_of) (sym c.deref.ensures.value))).ok in
    segments-merged (each_ok segment_table s.segments) made.0 c.merge_inputs.result made.1 c.merge_inputs.ensures.known

pub returns-clause-read_fault : goal.returns-clause-read_fault
returns-clause-read_fault g c =
    λ s is e. rose-seen g.H.FileHandle.seen c.args.inputs.now.items c.merge_inputs.new.inputs.items
    (c.merge_inputs.ensures.read_fault e)

pub returns-in_err-files-clause-handles : goal.returns-in_err-files-clause-handles
returns-in_err-files-clause-handles g c = all_keep-none (map g.H.FileHandle.seen c.args.inputs.now.items)

pub returns-clause-handles : goal.returns-clause-handles
returns-clause-handles g c =
    kept-seen g.H.FileHandle.seen c.args.inputs.now.items c.merge_inputs.new.inputs.items c.merge_inputs.ensures.kept
