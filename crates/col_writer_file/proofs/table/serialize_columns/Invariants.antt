use Rattle.std.proofs.Common.{map, take, length}
use Rattle.col_types.specs.Kinds.{kind_of}
use Rattle.col_writer_file.specs.Tables.{named_entry, made, ArePut}
use Rattle.col_writer_file.proofs.table.serialize_columns.Given as goal

abbrev pub invariant-loop-place : goal.invariant-loop-place
invariant-loop-place g l =
    ArePut (g.K.Sink.seen l.fn.sink) (g.K.Sink.seen l.sink) l.file (length l.order)
    (made l.order (map named_entry (take l.place l.columns)) (take l.place (map kind_of l.types)))
