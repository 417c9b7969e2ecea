-- What the end of a run leaves, by what writing the set answered.
use Rattle.std.proofs.Common.{ℕ, List, [], ◌∷◌, Result, Ok, Err, refl, sym, subst}
use Rattle.std.specs.Prelude.{IfErr}
use Rattle.col_common.specs.Outside.{SeenSink}
use Rattle.col_common.specs.declared.error.ColumnarError.{ColumnarError}
use Rattle.col_common.proofs.OnOkLemmas.{same-error}
use Rattle.col_disk.specs.Disks.{SeenDisk}
use Rattle.col_program.specs.Report.{rows_line, Prints}
use Rattle.col_segments.specs.Live.{compacted}
use Rattle.col_segments.specs.Segments.{alive_count}
use Rattle.col_set.specs.Sets.{SeenSet, ChangesSet, IsCompactAnswer, WritesBytes, WritesCompacted, WritesSet}
use Rattle.col_set_run.specs.Running.{RunsSteps}
use Rattle.col_set_script.specs.SetScripts.{SetStep}
use Rattle.col_set_tool.specs.Runs.{RunsWhole}
use Rattle.col_set_tool.proofs.EndLemmas.{end-refused, file-cut, report-end}

module _ {D : Type 0} (see : D → SeenDisk) (old mid new : SeenSet D) (xs : List SetStep) (found all : List ℕ)
    (s : RunsSteps see old mid [] found xs (Ok tt)) (rows : Prints found all (rows_line (alive_count mid.held) ∷ []))
    (output output' : SeenSink) where
  -- writing the set was refused
  pub write-stop : (report : SeenSink) (e : ColumnarError) → WritesSet see mid new output output' (Err e)
      → RunsWhole see old new output output' report report xs (Err e)
  write-stop report e w = by w.compaction w.changes w.known w.written
    where
      by : (k : Result (Unit {0}) ColumnarError) → ChangesSet see mid new k (compacted mid.held) → IfErr k IsCompactAnswer
          → WritesCompacted mid.held output output' k (Err e) → RunsWhole see old new output output' report report xs (Err e)
      by (Ok fine) changes known (t, file, made, is, bytes) =
          file-cut see old mid new xs found all s rows (Ok fine) changes t file made is refl output output' report e bytes
      by (Err own) changes known (is, stays) =
          subst (λ (sink : SeenSink). RunsWhole see old new output sink report report xs (Err e)) (sym stays)
          (end-refused see old mid new xs found all s rows (Err own) changes output report e (sym is)
          (subst IsCompactAnswer (sym (same-error e own is)) known))

  -- the set was written, and the report is to be
  pub write-done : (report report' : SeenSink) (r : Result (Unit {0}) ColumnarError) → WritesSet see mid new output output' (Ok tt)
      → WritesBytes report report' r all → RunsWhole see old new output output' report report' xs r
  write-done report report' r w v = by w.compaction w.changes w.written
    where
      by : (k : Result (Unit {0}) ColumnarError) → ChangesSet see mid new k (compacted mid.held)
          → WritesCompacted mid.held output output' k (Ok tt) → RunsWhole see old new output output' report report' xs r
      by (Ok fine) changes (t, file, made, is, bytes) =
          report-end see old mid new xs found all s rows (Ok fine) changes t file made is refl output output' report report' r bytes v
      by (Err own) changes (is, stays) = absurd (cc is)
