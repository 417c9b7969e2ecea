use Rattle.col_merge_texts.specs.Taking.{IsPlace, IsFrom, AreNoted}
use Rattle.col_merge_texts.proofs.take_terms.take_all.Given as goal

abbrev pub invariant-loop-segment : goal.invariant-loop-segment
invariant-loop-segment l =
    AreNoted l.bytes_columns (IsPlace l.bytes_columns) (IsFrom l.segment 0) l.noted
