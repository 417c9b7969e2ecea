use Rattle.std.proofs.Common.{◌≡◌, ◌+◌, ◌<◌, ◌^◌, ◌++◌, drop, length, flat_map, sum_by}
use Rattle.std.specs.Int.{w32, to_le_bytes}
use Rattle.col_terms.specs.Building.{texts}
use Rattle.col_terms.specs.TermTable.{ends_from}
use Rattle.col_terms.proofs.dictionary_builder.push_ends.Given as goal

abbrev pub invariant-loop-term : goal.invariant-loop-term
invariant-loop-term l = record {
  bytes : l.bytes.items ++ flat_map (to_le_bytes w32) (ends_from l.end (texts (drop l.term-index l.terms)))
      ≡ l.initial.bytes.items ++ flat_map (to_le_bytes w32) (ends_from 0 (texts l.terms));
  within : l.end + sum_by length (texts (drop l.term-index l.terms)) < 2 ^ 32;
}
