-- The files of segments.
use Rattle.std.specs.Prelude.{◌≡◌, ℕ, Vec, Result, Ok, IfOk, IfErr}
use Rattle.std.specs.declared.alloc.Global.{Global}
use Rattle.col_common.specs.declared.error.ColumnarError.{ColumnarError}
use Rattle.col_model.specs.File.{StandsFor}
use Rattle.col_model.specs.Refusal.{Refusal}
use Rattle.col_model.specs.Table.{Table}
use Rattle.col_writer_columns.specs.Answers.{MayRefuse}

-- What was made is a file of the table that is expected; or the refusal is the one that is
-- expected, or want of memory.
pub record MakesFile (result : Result (Vec ℕ Global) ColumnarError)
    (expected : Result Table Refusal) : Type 0 where
  pub ok : IfOk result (λ file. (t : Table) × (expected ≡ Ok t) × StandsFor t file.items)
  pub refused : IfErr result (MayRefuse expected)
