use Rattle.std.proofs.Common.{true, length}
use Rattle.col_merge_texts.specs.Items.{terms_of, lists_of}
use Rattle.col_merge_terms.specs.Numbering.{AreNumbered}
use Rattle.col_merge_terms.proofs.term_ord_mapping.number_terms.Given as goal

abbrev pub invariant-loop-merger : goal.invariant-loop-merger
invariant-loop-merger l =
    AreNumbered (terms_of l.bytes_columns) (λ key. true) l.merger.left l.ord (lists_of l.mapping)

abbrev pub decreases-loop-merger : goal.decreases-loop-merger
decreases-loop-merger l = length l.merger.left
