use Rattle.std.proofs.Common.{length}
use Rattle.col_merge_texts.specs.Items.{lists_of}
use Rattle.col_merge_terms.specs.Numbering.{AreGiven}
use Rattle.col_merge_terms.proofs.term_ord_mapping.number_places.Given as goal

abbrev pub invariant-loop-segment : goal.invariant-loop-segment
invariant-loop-segment l = AreGiven l.initial.places l.places l.ord (lists_of l.fn.mapping) (lists_of l.mapping)

abbrev pub decreases-loop-segment : goal.decreases-loop-segment
decreases-loop-segment l = length l.places
