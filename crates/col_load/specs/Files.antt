-- What loading lines into a file leaves and answers.
use Rattle.std.specs.Prelude.{◌≡◌, ◌⊎◌, ℕ, ◌≤◌, Bool, List, Result, Ok, Err, OnOk, IfOk, IfErr, IfSome}
use Rattle.col_common.specs.Causes.{Rose}
use Rattle.col_common.specs.Outside.{SeenSink, Told, IsAtEnd, Appends, Faulted}
use Rattle.col_common.specs.declared.error.ColumnarError.{ColumnarError}
use Rattle.col_common.specs.declared.error.ColumnarError.TheVariants as answers
use Rattle.col_documents.specs.Forms.{Forms}
use Rattle.col_documents.specs.Read.{refusal_read}
use Rattle.col_model.specs.File.{StandsFor}
use Rattle.col_model.specs.Refusal.{Refusal}
use Rattle.col_model.specs.Table.{Table}
use Rattle.col_writer_columns.specs.Answers.{answer_of}
use Rattle.col_load.specs.Loads.{Stop, bad_line, too_many, no_table, lines_of, counts_of_lines, table_of_lines}
use Rattle.col_load.specs.declared.load_error.LoadError.{LoadError}
use Rattle.col_load.specs.declared.load_error.LoadError.TheVariants.{OutOfMemory, BadLine, TooMany, Columnar}

-- the error of a call below
abbrev pub error_of : ColumnarError → LoadError
error_of answers.OutOfMemory = OutOfMemory
error_of e = Columnar e

-- a result without its value
abbrev pub without_value : {A : Type 0} → Result A LoadError → Result (Unit {0}) LoadError
without_value (Ok value) = Ok tt
without_value (Err e) = Err e

-- the error is this stop
abbrev pub Tells : LoadError → Stop → Type 0
Tells (BadLine n refusal) stop = stop ≡ bad_line n (refusal_read refusal)
Tells TooMany stop = stop ≡ too_many
Tells (Columnar e) stop = (r : Refusal) × (stop ≡ no_table r) × (e ≡ answer_of r)
Tells OutOfMemory stop = Unit {0}

-- Ok added a file that stands for the table. Else memory was wanting, or a write failed.
pub record AddsFile (a b : SeenSink) (result : Result (Unit {0}) LoadError) (table : Table)
    : Type 0 where
  pub file : List ℕ
  pub stands : OnOk result (StandsFor table file)
  pub added : OnOk result (Appends a b file)
  pub causes : IfErr result (λ e. (e ≡ OutOfMemory)
      ⊎ ((e ≡ Columnar answers.WriteFault) × Faulted a b))

-- The table that is expected was added as a file; where there is none, the stop was told, or memory
-- was wanting, and nothing was added.
pub record LoadsFile (a b : SeenSink) (result : Result (Unit {0}) LoadError)
    (expected : Result Table Stop) : Type 0 where
  pub table : (t : Table) → expected ≡ Ok t → AddsFile a b result t
  pub stop : (s : Stop) → expected ≡ Err s
      → (b ≡ a) × ((e : LoadError) × (result ≡ Err e) × Tells e s)

-- the source failed before its end, and nothing was added
abbrev pub AddsNothing : SeenSink → SeenSink → Result (Unit {0}) LoadError → Type 0
AddsNothing a b result = (b ≡ a) × (result ≡ Err (Columnar answers.ReadFault))

-- The file of the lines of a source was added, and Ok tells how many lines there are and how many
-- of them are bad, which were skipped. The source was then read to its end. A fault of the
-- source or of the sink is told only where its count rose.
pub record LoadsSource (left left' : Told) (before now : ℕ) (a b : SeenSink) (forms : Forms)
    (skips : Bool) (result : Result (ℕ × ℕ) LoadError) : Type 0 where
  pub file : IfSome left (λ text.
      LoadsFile a b (without_value result) (table_of_lines forms skips text)
      ⊎ AddsNothing a b (without_value result))
  pub counts : IfOk result (λ counts. IfSome left (λ text.
      counts ≡ counts_of_lines forms (lines_of text)))
  pub ended : OnOk result (IsAtEnd left')
  pub later : before ≤ now
  pub read_fault : result ≡ Err (Columnar answers.ReadFault) → Rose before now
  pub write_fault : result ≡ Err (Columnar answers.WriteFault) → Faulted a b
