use Rattle.std.proofs.Common.{drop}
use Rattle.col_writer.specs.Usage.{named_bytes}
use Rattle.col_writer.proofs.UsageLemmas.{AreCounted}
use Rattle.col_writer.proofs.writer.mem_usage.columns_bytes.Given as goal

-- the bytes so far, and of what is left, are those of all
abbrev pub invariant-loop-name : goal.invariant-loop-name
invariant-loop-name g l =
    AreCounted l.bytes (named_bytes g.C.RecordBytes.bytes (drop l.name-index l.columns))
    (named_bytes g.C.RecordBytes.bytes l.columns)
