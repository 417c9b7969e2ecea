use Rattle.std.proofs.Common.{◌≡◌, map, take, length}
use Rattle.col_merge_texts.specs.Items.{terms_of, lists_of}
use Rattle.col_merge_terms.proofs.term_ord_mapping.empty_mapping.Given as goal

abbrev pub invariant-loop-column : goal.invariant-loop-column
invariant-loop-column l =
    map length (lists_of l.mapping.items) ≡ map length (terms_of (take l.column-index l.bytes_columns))
