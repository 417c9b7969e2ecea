use Rattle.col_merge_texts.specs.Taking.{IsPlace, IsFrom, AreNoted}
use Rattle.col_merge_texts.proofs.take_terms.take_column.Given as goal

abbrev pub invariant-loop-ord : goal.invariant-loop-ord
invariant-loop-ord l =
    AreNoted l.bytes_columns (IsPlace l.bytes_columns) (IsFrom l.segment l.ord) l.noted
