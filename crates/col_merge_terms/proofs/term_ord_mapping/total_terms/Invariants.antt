use Rattle.std.proofs.Common.{◌≡◌, ◌<◌, ◌^◌, take}
use Rattle.col_merge_terms.specs.Numbering.{term_count}
use Rattle.col_merge_terms.proofs.term_ord_mapping.total_terms.Given as goal

abbrev pub invariant-loop-column : goal.invariant-loop-column
invariant-loop-column l = record {
  total_is : l.total ≡ term_count (take l.column-index l.bytes_columns);
  fits : l.total < 2 ^ 64;
}
