-- What the answer to an upgrade leaves.
use Rattle.std.proofs.Common.{◌≡◌, ℕ, List, [], ◌∷◌, Result, Ok, Err, IfSome, true, refl, sym, subst}
use Rattle.std.specs.List.{AllZip}
use Rattle.col_common.specs.Outside.{SeenFile, SeenSink}
use Rattle.col_common.specs.Refused.{code_of}
use Rattle.col_common.specs.declared.error.ColumnarError.{ColumnarError}
use Rattle.col_model.specs.File.{table_of}
use Rattle.col_outcome.specs.Checking.{IsReadOnce}
use Rattle.col_outcome.specs.Making.{IsMade}
use Rattle.col_outcome.specs.Parts.{all_told, AllKeep, SomeFileRose}
use Rattle.col_outcome.specs.Upgrading.{UpgradesInput}
use Rattle.col_outcome.specs.declared.merging.FileAndReport.{FileAndReport}
use Rattle.col_tool.specs.Answer.{Leaves, Delivers}
use Rattle.col_tool.specs.Upgrades.{upgraded, outcome_of_upgrade}
use Rattle.col_tool.proofs.InputLemmas.{IsOfInput, IsOfOne, input-delivered, input-refusal, input-refused, input-rose}

-- an upgrade comes to what the input's bytes come to
of-upgrade : IsOfOne table_of upgraded outcome_of_upgrade
of-upgrade = record { one = λ bytes. refl; none = refl }

-- what a file and a report leave that were made
pub upgrade-delivered : (output output' report report' : SeenSink) (olds news : List SeenFile) (made : FileAndReport) (status : ℕ)
    → UpgradesInput olds news (Ok made) → Delivers output output' report report' made.file made.report status
    → IfSome (all_told olds) (λ files. Leaves output output' report report' status (outcome_of_upgrade files))
upgrade-delivered output output' report report' olds news made status u d =
    input-delivered table_of upgraded outcome_of_upgrade of-upgrade olds u.old u.before (IsMade true []) made
    output output' report report' made.file made.report status (λ t h. h) u.upgrades.answer d

-- an upgrade refuses as it may
pub upgrade-refusal : (olds news : List SeenFile) (e : ColumnarError) → UpgradesInput olds news (Err e) → IsOfInput e
upgrade-refusal olds news e u = input-refusal u.old u.new e table_of u.upgrades.answer

-- what a refusal leaves
pub upgrade-refused : (output report : SeenSink) (olds news : List SeenFile) (e : ColumnarError) → UpgradesInput olds news (Err e)
    → IfSome (all_told olds) (λ files. Leaves output output report report (code_of e) (outcome_of_upgrade files))
upgrade-refused output report olds news e u =
    input-refused table_of upgraded outcome_of_upgrade of-upgrade olds u.old u.before output report u.new e u.upgrades.answer

-- a read failed only where the input's count of faults rose
pub upgrade-rose : (olds news : List SeenFile) (e : ColumnarError) → UpgradesInput olds news (Err e) → code_of e ≡ 4
    → SomeFileRose olds news
upgrade-rose olds news e u four = input-rose olds news u.old u.new e table_of u.before u.behind u.upgrades.answer four

-- the input is handed back, and stays
pub upgrade-kept : (olds news : List SeenFile) (result : Result FileAndReport ColumnarError) → UpgradesInput olds news result
    → AllKeep olds news
upgrade-kept olds news result u =
    subst (λ fs. AllKeep fs news) (sym u.before) (subst (λ fs. AllKeep (u.old ∷ []) fs) (sym u.behind) (u.upgrades.kept, tt))

-- it is read once
pub upgrade-reads : (olds news : List SeenFile) (result : Result FileAndReport ColumnarError) → UpgradesInput olds news result
    → AllZip IsReadOnce olds news
upgrade-reads olds news result u =
    subst (λ fs. AllZip IsReadOnce fs news) (sym u.before)
    (subst (λ fs. AllZip IsReadOnce (u.old ∷ []) fs) (sym u.behind) (u.upgrades.reads, tt))
