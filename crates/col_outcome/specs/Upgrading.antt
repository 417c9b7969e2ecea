-- A file that is written again. States docs/RULES.md, Upgraded files.
use Rattle.std.specs.Prelude.{◌≡◌, true, List, [], ◌∷◌, Result}
use Rattle.col_common.specs.declared.error.ColumnarError.{ColumnarError}
use Rattle.col_common.specs.Outside.{SeenFile}
use Rattle.col_file.specs.Files.{AnswersForHandle}
use Rattle.col_model.specs.File.{table_of}
use Rattle.col_outcome.specs.Checking.{IsReadOnce}
use Rattle.col_outcome.specs.Making.{IsMade}
use Rattle.col_outcome.specs.Parts.{KeepsFile}
use Rattle.col_outcome.specs.declared.merging.FileAndReport.{FileAndReport}

-- What was made is a file of the table that the file stands for, and its short report without
-- lookups; the file is kept, and read once. InvalidData says that its bytes stand for no table.
pub record UpgradesOne (old new : SeenFile) (result : Result FileAndReport ColumnarError)
    : Type 0 where
  pub answer : AnswersForHandle (IsMade true []) old new result table_of
  pub kept : KeepsFile old new
  pub reads : IsReadOnce old new

-- The same of inputs of which there is one.
pub record UpgradesInput (olds news : List SeenFile) (result : Result FileAndReport ColumnarError)
    : Type 0 where
  pub old : SeenFile
  pub new : SeenFile
  pub before : olds ≡ old ∷ []
  pub behind : news ≡ new ∷ []
  pub upgrades : UpgradesOne old new result
