-- Which refusal stands for which number. States docs/RULES.md, Statuses.
use Rattle.std.specs.Prelude.{ℕ}
use Rattle.col_common.specs.declared.error.ColumnarError.{ColumnarError}
use Rattle.col_common.specs.declared.error.ColumnarError.TheVariants as store
use Rattle.col_csv.specs.declared.csv_error.CsvError.{CsvError}
use Rattle.col_csv.specs.declared.csv_error.CsvError.TheVariants.{OutOfMemory, ReadFault, WriteFault, InvalidData, LongCsv, NotFlat, BadCsv}

-- the number of each refusal
abbrev pub code_of : CsvError → ℕ
code_of OutOfMemory = 3
code_of ReadFault = 4
code_of WriteFault = 5
code_of InvalidData = 6
code_of LongCsv = 21
code_of NotFlat = 22
code_of BadCsv = 23

-- the refusal of a call that reads a file or writes into a sink; no other comes of these
abbrev pub refusal_of : ColumnarError → CsvError
refusal_of store.OutOfMemory = OutOfMemory
refusal_of store.ReadFault = ReadFault
refusal_of store.WriteFault = WriteFault
refusal_of _ = InvalidData
