-- What is made, or refused, in place of what is expected.
use Rattle.std.specs.Prelude.{◌≡◌, ◌⊎◌, ⊤, ℕ, Bool, List, ◌++◌, length, map, Option, Some, Result, Ok, Err, IfOk, IfErr, IfSome}
use Rattle.std.specs.List.{AllZip}
use Rattle.col_common.specs.declared.error.ColumnarError.{ColumnarError}
use Rattle.col_common.specs.declared.error.ColumnarError.TheVariants.{OutOfMemory, ReadFault}
use Rattle.col_model.specs.File.{Part, StandsFor, part_of_table, parts_of}
use Rattle.col_model.specs.Keys.{FileKeys}
use Rattle.col_model.specs.Merge.{Required, merged}
use Rattle.col_program.specs.Outcome.{order_over}
use Rattle.col_model.specs.Refusal.{Refusal, ◌>>=◌, or_refuse, each_ok, invalid_data}
use Rattle.col_program.specs.Report.{report_of}
use Rattle.col_program.specs.Script.{Question, RowOrder}
use Rattle.col_model.specs.Table.{Table}
use Rattle.col_writer_columns.specs.Answers.{answer_of, MayRefuse}
use Rattle.col_common.specs.Outside.{SeenFile}
use Rattle.col_file.specs.Readers.{SeenReader}
use Rattle.col_merge.specs.Parts.{told_part, told_parts}
use Rattle.col_merge.specs.Readings.{AllRead, SomeReaderRose}
pub use Rattle.col_merge.specs.Turns.{refusal_of}
use Rattle.col_outcome.specs.Parts.{AllKeep, SomeFileRose, all_told}
use Rattle.col_outcome.specs.declared.merging.FileAndReport.{FileAndReport}

-- What was made is of what is expected; or the refusal is the one that is expected, or want of
-- memory.
pub record Makes {A B : Type 0} (IsOf : A → B → Type 0) (result : Result B ColumnarError)
    (expected : Result A Refusal) : Type 0 where
  pub ok : IfOk result (λ b. (a : A) × (expected ≡ Ok a) × IsOf a b)
  pub refused : IfErr result (MayRefuse expected)

-- the same, or a read failed
pub record MakesIfRead {A B : Type 0} (IsOf : A → B → Type 0) (result : Result B ColumnarError)
    (expected : Result A Refusal) : Type 0 where
  pub ok : IfOk result (λ b. (a : A) × (expected ≡ Ok a) × IsOf a b)
  pub refused : IfErr result (λ e. (e ≡ ReadFault) ⊎ MayRefuse expected e)

-- a refusal that the definitions have, want of memory, or a read that failed
abbrev pub IsKnown : ColumnarError → Type 0
IsKnown e = (e ≡ OutOfMemory) ⊎ ((e ≡ ReadFault) ⊎ ((r : Refusal) × (e ≡ answer_of r)))

-- a refusal that merges have, want of memory, or a read that failed
abbrev pub IsMergeRefusal : ColumnarError → Type 0
IsMergeRefusal e =
    (e ≡ OutOfMemory) ⊎ ((e ≡ ReadFault) ⊎ ((r : Refusal) × (refusal_of e ≡ Some r)))

-- What comes of segments decides first: where they are refused, what is made of them and of inputs
-- is their refusal, or want of memory. Behind tables a refusal is one of the merge.
abbrev pub SegmentsDecide : {A B : Type 0} → Result A Refusal → Result B ColumnarError → Type 0
SegmentsDecide (Ok tables) (Ok made) = ⊤
SegmentsDecide (Ok tables) (Err e) = IsMergeRefusal e
SegmentsDecide (Err r) (Ok made) = ⊥
SegmentsDecide (Err r) (Err e) = (e ≡ OutOfMemory) ⊎ (e ≡ answer_of r)

-- a file that was opened has the part that a table is
abbrev pub IsReaderOf : Table → SeenReader → Type 0
IsReaderOf t r = told_part r ≡ Some (part_of_table t)

-- the same of tables and files, in order
abbrev pub AreReadersOf : List Table → List SeenReader → Type 0
AreReadersOf tables rs = AllZip IsReaderOf tables rs

-- the file of a table, and its report with these questions, short or not
abbrev pub IsMade : Bool → List Question → Table → FileAndReport → Type 0
IsMade short questions t made =
    StandsFor t made.file × (made.report ≡ report_of t questions short)

-- how often a file is read for its columns
abbrev pub column_reads : FileKeys → ℕ
column_reads k = length k.entries

-- What open files merge to, each read at most so often. Where they tell their parts, what is made
-- is of what is expected of these; each refusal is one that merges have, and ReadFault comes where
-- some file's count of faults rose.
pub record MergesReaders {A B : Type 0} (IsOf : A → B → Type 0) (times : FileKeys → ℕ)
    (olds news : List SeenReader) (result : Result B ColumnarError)
    (expected : List Part → Result A Refusal) : Type 0 where
  pub made : (parts : List Part) → told_parts olds ≡ Some parts →
      MakesIfRead IsOf result (expected parts)
  pub known : IfErr result IsMergeRefusal
  pub read_fault : result ≡ Err ReadFault → SomeReaderRose olds news
  pub stay : AllRead times olds news

-- the merged table of parts, in this order, or the first refusal: of the order, then of the merge
abbrev pub merged_over : List Required → Option RowOrder → List Part → Result Table Refusal
merged_over required order parts = order_over order parts >>= merged parts required

-- the merged table of inputs and, behind them, of tables, in this order
abbrev pub inputs_table : List (List ℕ) → List Table → List Required → Option RowOrder →
    Result Table Refusal
inputs_table inputs tables required order = do
  parts ← each_ok (λ bytes. or_refuse (parts_of bytes) invalid_data) inputs
  merged_over required order (parts ++ map part_of_table tables)

-- What inputs, and files behind them, merge to. Where the inputs tell their bytes, and the files
-- stand for tables, what is made is of the merged table of all.
pub record MergesInputs (IsOf : Table → FileAndReport → Type 0) (olds news : List SeenFile)
    (files : List (List ℕ)) (required : List Required) (order : Option RowOrder)
    (result : Result FileAndReport ColumnarError) : Type 0 where
  pub made : (tables : List Table) → AllZip StandsFor tables files →
      IfSome (all_told olds) (λ inputs.
      MakesIfRead IsOf result (inputs_table inputs tables required order))
  pub known : IfErr result IsMergeRefusal
  pub read_fault : result ≡ Err ReadFault → SomeFileRose olds news
  pub kept : AllKeep olds news
