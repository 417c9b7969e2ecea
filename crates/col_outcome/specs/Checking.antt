-- A check of one input. States docs/RULES.md, Checks.
use Rattle.std.specs.Prelude.{◌≡◌, ◌≤◌, ◌+◌, ℕ, List, [], ◌∷◌, length, Option, Some, None, IfSome, Result}
use Rattle.std.specs.declared.alloc.Global.{Global}
use Rattle.std.specs.declared.vec.Vec.{Vec}
use Rattle.col_common.specs.declared.error.ColumnarError.{ColumnarError}
use Rattle.col_common.specs.Outside.{SeenFile}
use Rattle.col_file.specs.Files.{AnswersForHandle}
use Rattle.col_program.specs.Check.{check_report}
use Rattle.col_model.specs.File.{Part, parts_of}
use Rattle.col_outcome.specs.Parts.{KeepsFile}

-- A report on a file, or a refusal to make one.
abbrev pub Report : Type 0
Report = Result (Vec ℕ Global) ColumnarError

-- how many reads all of a file takes: two find its end, and one each of its entries
abbrev pub whole_reads : Option Part → ℕ
whole_reads None = 2
whole_reads (Some p) = 2 + length p.columns

-- a file was read no more often than reading it once takes
abbrev pub IsReadOnce : SeenFile → SeenFile → Type 0
IsReadOnce old new =
    IfSome old.told (λ bytes. new.reads ≤ old.reads + whole_reads (parts_of bytes))

-- The report is that of a check of the file, which is kept. InvalidData says that its bytes have no
-- key table.
pub record ChecksFile (old new : SeenFile) (result : Report) : Type 0 where
  pub answer : AnswersForHandle (λ p report. report.items ≡ check_report p) old new result parts_of
  pub kept : KeepsFile old new
  pub reads : IsReadOnce old new

-- The same of inputs of which there is one.
pub record ChecksInput (olds news : List SeenFile) (result : Report) : Type 0 where
  pub old : SeenFile
  pub new : SeenFile
  pub before : olds ≡ old ∷ []
  pub behind : news ≡ new ∷ []
  pub checks : ChecksFile old new result
