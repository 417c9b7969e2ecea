use Rattle.std.proofs.Common.{◌≡◌, ◌++◌, drop, length}
use Rattle.col_merge_terms.specs.Merging.{terms_left}
use Rattle.col_merge_texts.specs.Items.{terms_of}
use Rattle.col_merge_terms.specs.Numbering.{terms_from}
use Rattle.col_merge_terms.proofs.term_ord_mapping.term_streams.Given as goal

abbrev pub invariant-loop-segment_ord : goal.invariant-loop-segment_ord
invariant-loop-segment_ord l = record {
  terms : terms_left l.streams.items ++ terms_from l.segment_ord (terms_of (drop l.segment_ord l.bytes_columns))
      ≡ terms_from 0 (terms_of l.bytes_columns);
  len : length l.streams.items ≡ l.segment_ord;
}
