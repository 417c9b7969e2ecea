-- What the answer to a check leaves.
use Rattle.std.proofs.Common.{◌≡◌, ℕ, List, [], ◌∷◌, ◌++◌, Option, Some, None, option_map, Ok, Err, IfSome, refl, sym, ap, subst, append-nil, arith}
use Rattle.std.specs.List.{AllZip}
use Rattle.std.specs.declared.alloc.Global.{Global}
use Rattle.std.specs.declared.vec.Vec.{Vec}
use Rattle.col_common.specs.Outside.{SeenFile, SeenSink, Appends}
use Rattle.col_common.specs.Refused.{code_of}
use Rattle.col_common.specs.declared.error.ColumnarError.{ColumnarError}
use Rattle.col_program.specs.Check.{check_report}
use Rattle.col_model.specs.File.{parts_of}
use Rattle.col_program.specs.Outcome.{checked, outcome_of_check}
use Rattle.col_outcome.specs.Checking.{Report, IsReadOnce, ChecksInput}
use Rattle.col_outcome.specs.Parts.{all_told, AllKeep, SomeFileRose}
use Rattle.col_tool.specs.Answer.{Leaves, KeepsOutputs, Delivers}
use Rattle.col_tool.proofs.InputLemmas.{IsOfInput, IsOfOne, input-delivered, input-refusal, input-refused, input-rose}

-- ---- nothing is written

appends-none : (sink : SeenSink) → Appends sink sink []
appends-none sink = by sink.written
  where
    by : (o : Option (List ℕ)) → o ≡ option_map (λ held. held ++ []) o
    by None = refl
    by (Some held) = ap Some (sym (append-nil held))

-- nothing was written
pub keeps-none : (output report : SeenSink) (status : ℕ) → KeepsOutputs output output report report status
keeps-none output report status = record {
  output_grew = ([], appends-none output);
  report_grew = ([], appends-none report);
  no_report = λ e. refl;
  nothing = λ not_done memory fault. (refl, refl);
  output_later = omega arith;
  report_later = omega arith;
}

-- ---- the one input

-- a check comes to what the input's bytes come to
of-check : IsOfOne parts_of checked outcome_of_check
of-check = record { one = λ bytes. refl; none = refl }

-- what a report leaves that was made
pub check-delivered : (output report report' : SeenSink) (olds news : List SeenFile) (made : Vec ℕ Global) (status : ℕ)
    → ChecksInput olds news (Ok made) → Delivers output output report report' [] made.items status
    → IfSome (all_told olds) (λ files. Leaves output output report report' status (outcome_of_check files))
check-delivered output report report' olds news made status c d =
    input-delivered parts_of checked outcome_of_check of-check olds c.old c.before
    (λ p (v : Vec ℕ Global). v.items ≡ check_report p) made output output report report' [] made.items status
    (λ p h. (refl, h)) c.checks.answer d

-- a check refuses as it may
pub check-refusal : (olds news : List SeenFile) (e : ColumnarError) → ChecksInput olds news (Err e) → IsOfInput e
check-refusal olds news e c = input-refusal c.old c.new e parts_of c.checks.answer

-- what a refusal leaves
pub check-refused : (output report : SeenSink) (olds news : List SeenFile) (e : ColumnarError) → ChecksInput olds news (Err e)
    → IfSome (all_told olds) (λ files. Leaves output output report report (code_of e) (outcome_of_check files))
check-refused output report olds news e c =
    input-refused parts_of checked outcome_of_check of-check olds c.old c.before output report c.new e c.checks.answer

-- a read failed only where the input's count of faults rose
pub check-rose : (olds news : List SeenFile) (e : ColumnarError) → ChecksInput olds news (Err e) → code_of e ≡ 4 → SomeFileRose olds news
check-rose olds news e c four = input-rose olds news c.old c.new e parts_of c.before c.behind c.checks.answer four

-- the input is handed back, and stays
pub check-kept : (olds news : List SeenFile) (result : Report) → ChecksInput olds news result → AllKeep olds news
check-kept olds news result c =
    subst (λ fs. AllKeep fs news) (sym c.before) (subst (λ fs. AllKeep (c.old ∷ []) fs) (sym c.behind) (c.checks.kept, tt))

-- it is read once
pub check-reads : (olds news : List SeenFile) (result : Report) → ChecksInput olds news result → AllZip IsReadOnce olds news
check-reads olds news result c =
    subst (λ fs. AllZip IsReadOnce fs news) (sym c.before)
    (subst (λ fs. AllZip IsReadOnce (c.old ∷ []) fs) (sym c.behind) (c.checks.reads, tt))
