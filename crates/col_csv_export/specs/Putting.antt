-- Records made of fields, and put into a sink one behind another.
use Rattle.std.specs.Prelude.{◌≡◌, ◌<◌, ◌≤◌, ◌-◌, ◌⊎◌, ℕ, false, List, [], ◌++◌, map, Some, Result}
use Rattle.std.specs.Prelude.{Err, OnOk, IfErr}
use Rattle.std.specs.List.{range_with_len}
use Rattle.std.specs.declared.vec.Vec.{Vec}
use Rattle.std.specs.declared.alloc.Global.{Global}
use Rattle.csv.specs.Records.{Row, fields_of, partial_of}
use Rattle.csv.specs.Writing.{default_writer, fields_written, has_written, text_written}
use Rattle.csv.specs.Writing.{writer_setup}
use Rattle.csv.specs.declared.writer.Writer.{Writer}
use Rattle.col_common.specs.Outside.{SeenSink, Appends, Faulted, Grows}
use Rattle.col_common.specs.declared.error.ColumnarError.{ColumnarError}
use Rattle.col_common.specs.declared.error.ColumnarError.TheVariants.{OutOfMemory, WriteFault}
use Rattle.col_csv.specs.Csv.{records_text, row_fields}
use Rattle.col_model.specs.Table.{Column}

-- A record has just these fields, and no other is begun.
pub record HasFields (r : Row) (fields : List (List ℕ)) : Type 0 where
  pub whole : fields_of r ≡ fields
  pub done : partial_of r ≡ []

-- The bytes were added, but for those at their end that are held back.
pub record HoldsBack (old new : SeenSink) (held bytes : List ℕ) : Type 0 where
  pub part : List ℕ
  pub added : Appends old new part
  pub all : part ++ held ≡ bytes

-- Ok added the bytes behind those that were held before, but for those that are held after. A
-- refusal is want of memory, or WriteFault where the sink's count of faults rose; what the sink
-- held stays in front.
pub record PutsText (old new : SeenSink) (result : Result (Unit {0}) ColumnarError)
    (before after bytes : List ℕ) : Type 0 where
  pub ok : OnOk result (HoldsBack old new after (before ++ bytes))
  pub grown : Grows old new
  pub later : old.faults ≤ new.faults
  pub write_fault : result ≡ Err WriteFault → Faulted old new
  pub causes : IfErr result (λ e. (e ≡ OutOfMemory) ⊎ (e ≡ WriteFault))

-- the record's fields were followed by these
abbrev pub AddsFields : Row → Row → List (List ℕ) → Type 0
AddsFields old new more =
    (fields : List (List ℕ)) → HasFields old fields → HasFields new (fields ++ more)

-- ---- blocks of rows

-- the records of rows from one on, and before another
abbrev pub rows_between : List Column → ℕ → ℕ → List (List (List ℕ))
rows_between columns from next = map (row_fields columns) (range_with_len from (next - from))

-- The texts of at least one row from `from` on were added, and `next` is the one behind them.
pub record AddsRows (columns : List Column) (from next count : ℕ) (before after : List ℕ) :
    Type 0 where
  pub begun : from < next
  pub within : next ≤ count
  pub text : after ≡ before ++ records_text (rows_between columns from next)

-- A writer into memory has written just this text, and no record is begun.
pub record HasText (w : Writer (Vec ℕ Global)) (text : List ℕ) : Type 0 where
  pub written : text_written (λ v. Some v.items) w ≡ Some text
  pub setup : writer_setup w ≡ default_writer
  pub fields : fields_written w ≡ 0
  pub clean : has_written w ≡ false
