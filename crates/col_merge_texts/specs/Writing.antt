-- What is written behind a dictionary.
use Rattle.std.specs.Prelude.{ℕ, ◌++◌, List, Result, OnOk}
use Rattle.std.specs.Int.{w32, to_le_bytes}
use Rattle.col_common.specs.Outside.{SeenSink}
use Rattle.col_common.specs.Serializing.{Serializes}
use Rattle.col_common.specs.declared.error.ColumnarError.{ColumnarError}
use Rattle.col_column.specs.Written.{StandForRows}
use Rattle.col_model.specs.Index.{Shape}

-- Ok added bytes that stand for ordinals behind a shape, and how many bytes the dictionary in front
-- takes; a refusal has a cause.
pub record SerializesOrds (old new : SeenSink) (result : Result (Unit {0}) ColumnarError)
    (s : Shape) (ords : List ℕ) (dictionary_len : ℕ) : Type 0 where
  pub bytes : List ℕ
  pub again : OnOk result (StandForRows bytes s ords)
  pub written : Serializes old new result (bytes ++ to_le_bytes w32 dictionary_len)
