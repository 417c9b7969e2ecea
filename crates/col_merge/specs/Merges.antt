-- What merging files writes. States docs/RULES.md, Merged tables.
use Rattle.std.specs.Prelude.{◌≡◌, ℕ, List, map, Option, Result, Ok, Err, IfSome}
use Rattle.col_common.specs.Outside.{SeenSink, Appends}
use Rattle.col_common.specs.declared.error.ColumnarError.{ColumnarError}
use Rattle.col_model.specs.File.{Part, StandsFor}
use Rattle.col_model.specs.Category.{Slot}
use Rattle.col_model.specs.Keys.{Key}
use Rattle.col_model.specs.Refusal.{Refusal, each_ok}
use Rattle.col_model.specs.Spelling.{file_bytes}
use Rattle.col_model.specs.Table.{Column, Table}
use Rattle.col_keys.specs.Put.{AreKeys, HasColumns}
use Rattle.col_file.specs.Readers.{SeenReader}
use Rattle.col_merge.specs.Parts.{told_parts}
use Rattle.col_merge.specs.Turns.{RefusesMerge, ArePutAs}

-- a file was added that has the columns of these slots
pub record AddsSlots (rs : List SeenReader) (a b : SeenSink) (n : ℕ)
    (expected : List Part → Slot → Result (Option Column) Refusal) (slots : List Slot)
    : Type 0 where
  pub ps : List (Key × List ℕ)
  pub told : IfSome (told_parts rs) (λ parts. ArePutAs n ps (each_ok (expected parts) slots))
  pub added : Appends a b (file_bytes n ps)
  pub has : AreKeys (map (λ p. p.0) ps) → HasColumns (file_bytes n ps) n ps

-- the same, or why not
abbrev pub WritesSlots : List SeenReader → List SeenReader → SeenSink → SeenSink →
    Result (Unit {0}) ColumnarError → ℕ →
    (List Part → Slot → Result (Option Column) Refusal) → List Slot → Type 0
WritesSlots olds news a b (Ok done) n expected slots = AddsSlots olds a b n expected slots
WritesSlots olds news a b (Err e) n expected slots =
    RefusesMerge olds news a b e (λ parts. each_ok (expected parts) slots)

-- a file was added that stands for the table that is expected
pub record AddsTable (a b : SeenSink) (expected : Result Table Refusal) : Type 0 where
  pub table : Table
  pub is : expected ≡ Ok table
  pub file : List ℕ
  pub added : Appends a b file
  pub stands : StandsFor table file

-- Ok added a file that stands for the table that is expected of the parts, where the readers tell
-- these; a refusal has a cause.
abbrev pub MergesFiles : List SeenReader → List SeenReader → SeenSink → SeenSink →
    Result (Unit {0}) ColumnarError → (List Part → Result Table Refusal) → Type 0
MergesFiles olds news a b (Ok done) expected =
    IfSome (told_parts olds) (λ parts. AddsTable a b (expected parts))
MergesFiles olds news a b (Err e) expected = RefusesMerge olds news a b e expected
