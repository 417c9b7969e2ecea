use Rattle.std.proofs.Common.{take}
use Rattle.std.specs.List.{AllByRecursion}
use Rattle.col_merge_terms.specs.Merging.{LeftAscends}
use Rattle.col_merge_terms.proofs.term_merger.terms_ascend.Given as goal

abbrev pub invariant-loop-stream : goal.invariant-loop-stream
invariant-loop-stream l = AllByRecursion LeftAscends (take l.stream-index l.streams)
