use Rattle.col_segments.proofs.OpenLemmas.{DropsOpen}
use Rattle.col_segments.proofs.held.drop_from.Given as goal

abbrev pub invariant-loop-place : goal.invariant-loop-place
invariant-loop-place l = DropsOpen l.ids l.initial.held.items l.place l.first l.next l.held.items l.readers.items
