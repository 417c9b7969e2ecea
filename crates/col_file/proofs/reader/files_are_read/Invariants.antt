use Rattle.std.proofs.Common.{take}
use Rattle.std.specs.List.{AllByRecursion}
use Rattle.col_file.specs.Readers.{IsRead}
use Rattle.col_file.proofs.reader.files_are_read.Given as goal

abbrev pub invariant-loop-reader : goal.invariant-loop-reader
invariant-loop-reader g l = AllByRecursion IsRead (take l.reader-index l.columnar_readers)
