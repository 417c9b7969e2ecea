-- How many bytes columns take.
use Rattle.std.specs.Prelude.{◌≡◌, false, Result, Err}
use Rattle.col_common.specs.declared.error.ColumnarError.{ColumnarError}
use Rattle.col_common.specs.declared.error.ColumnarError.TheVariants.{InvalidData}
use Rattle.col_types.specs.Usage.{Usage}
use Rattle.col_file.specs.Columns.{content_at, IsUsage}
use Rattle.col_file.specs.Files.{AnswersForHandle}
use Rattle.col_file.specs.Handles.{Handle, is_entry}
use Rattle.col_file.specs.Readers.{SeenReader, Reads}

-- What the column of a handle takes is told, by its bytes in the reader's file, which is read at
-- most once. The answer is InvalidData where the handle is no entry of the reader.
pub record TellsUsage (handle : Handle) (old new : SeenReader)
    (result : Result Usage ColumnarError) : Type 0 where
  pub no_entry : is_entry old.keys handle ≡ false → result ≡ Err InvalidData
  pub answer : AnswersForHandle (IsUsage handle) old.file new.file result
      (content_at old.keys handle)
  pub kept : Reads 1 old new
