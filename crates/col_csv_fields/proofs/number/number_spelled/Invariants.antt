use Rattle.col_csv_fields.proofs.NumberLemmas.{IsReadTo}
use Rattle.col_csv_fields.proofs.number.number_spelled.Given as goal

abbrev pub invariant-loop-byte : goal.invariant-loop-byte
invariant-loop-byte l = IsReadTo l.text l.byte-index l.number
