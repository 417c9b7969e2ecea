use Rattle.std.proofs.Common.{◌≡◌, Err, None, map, inl, refl, ap, arith}
use Rattle.std.proofs.lemmas.Result.{err_from_is_err_and}
use Rattle.col_program.specs.Outcome.{segment_table}
use Rattle.col_model.specs.Refusal.{each_ok}
use Rattle.col_program.specs.Script.{script_of}
use Rattle.col_outcome.specs.declared.merging.FileAndReport.{FileAndReport}
use Rattle.col_outcome.proofs.PartLemmas.{all_keep-none}
use Rattle.col_tool.specs.Expected.{script_refusal}
use Rattle.col_tool.proofs.AnswerLemmas.{script-found, script-none}
use Rattle.col_tool.proofs.DecidedLemmas.{failed-decides, segments-made, segments-refused}
use Rattle.col_tool.proofs.RefusedLemmas.{fault-read, known-among}
use Rattle.col_tool.proofs.ValidLemmas.{without-invalid}
use Rattle.col_tool.proofs.scripts.made_of_bytes.Goals as goal

pub returns-in_default-clause-among : goal.returns-in_default-clause-among
returns-in_default-clause-among g c = (13, omega arith, refl)

pub returns-in_default-clause-script_alone : goal.returns-in_default-clause-script_alone
returns-in_default-clause-script_alone g c =
    let none : script_of c.args.bytes.now ≡ None = script-none _ (rw c.in_default.is at c.in_ok-parsed.ensures) in
    rw none (inl refl)

pub returns-in_err-parsed-clause-script_alone : goal.returns-in_err-parsed-clause-script_alone
returns-in_err-parsed-clause-script_alone g c =
    let p = err_from_is_err_and c.from_residual.result c.from_residual.ensures.1 in
    rw (p.1, p.2) (failed-decides (script_refusal (script_of c.args.bytes.now)) ⊥ 3 (inl refl))

pub returns-in_err-merge_and_report-clause-script_alone : goal.returns-in_err-merge_and_report-clause-script_alone
returns-in_err-merge_and_report-clause-script_alone g c =
    let p = err_from_is_err_and c.from_residual-in_err-merge_and_report.result c.from_residual-in_err-merge_and_report.ensures.1 in
    let s = script-found _ c.in-Some.parsed (rw c.in-Some.is at c.in_ok-parsed.ensures) in
    rw (s.1, p.1, p.2) (segments-refused FileAndReport (each_ok segment_table s.0.segments) _
    (c.in_err-merge_and_report.ensures.segments s.0 s.2))

pub returns-clause-script_alone : goal.returns-clause-script_alone
returns-clause-script_alone g c =
    let s = script-found _ c.in-Some.parsed (rw c.in-Some.is at c.in_ok-parsed.ensures) in
    rw s.1 (segments-made (each_ok segment_table s.0.segments) _ (c.in_ok-merge_and_report.ensures.segments s.0 s.2))

pub returns-in_err-merge_and_report-clause-read_fault : goal.returns-in_err-merge_and_report-clause-read_fault
returns-in_err-merge_and_report-clause-read_fault g c =
    let p = err_from_is_err_and c.from_residual-in_err-merge_and_report.result c.from_residual-in_err-merge_and_report.ensures.1 in
    let s = script-found _ c.in-Some.parsed (rw c.in-Some.is at c.in_ok-parsed.ensures) in
    rw (p.1, p.2) (λ four. c.in_err-merge_and_report.ensures.read_fault s.0 s.2 (ap Err (fault-read _ four)))

pub returns-in_err-merge_and_report-clause-among : goal.returns-in_err-merge_and_report-clause-among
returns-in_err-merge_and_report-clause-among g c =
    let p = err_from_is_err_and c.from_residual-in_err-merge_and_report.result c.from_residual-in_err-merge_and_report.ensures.1 in
    let s = script-found _ c.in-Some.parsed (rw c.in-Some.is at c.in_ok-parsed.ensures) in
    rw (p.1, p.2) (known-among _ (c.in_err-merge_and_report.ensures.known s.0 s.2))

pub returns-in_err-merge_and_report-clause-inputs : goal.returns-in_err-merge_and_report-clause-inputs
returns-in_err-merge_and_report-clause-inputs g c =
    let p = err_from_is_err_and c.from_residual-in_err-merge_and_report.result c.from_residual-in_err-merge_and_report.ensures.1 in
    let s = script-found _ c.in-Some.parsed (rw c.in-Some.is at c.in_ok-parsed.ensures) in
    λ none. rw (p.1, p.2) (without-invalid _ _ s.0 _ (ap (map g.H.FileHandle.seen) none) (c.in_err-merge_and_report.ensures.made s.0 s.2))

pub returns-in_err-parsed-clause-handles : goal.returns-in_err-parsed-clause-handles
returns-in_err-parsed-clause-handles g c = all_keep-none (map g.H.FileHandle.seen c.args.inputs.now.items)

pub returns-in_default-clause-handles : goal.returns-in_default-clause-handles
returns-in_default-clause-handles g c = all_keep-none (map g.H.FileHandle.seen c.args.inputs.now.items)
