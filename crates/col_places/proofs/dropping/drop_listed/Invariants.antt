use Rattle.col_places.proofs.DropLemmas.{Drops}
use Rattle.col_places.proofs.dropping.drop_listed.Given as goal

abbrev pub invariant-loop-row : goal.invariant-loop-row
invariant-loop-row l = Drops l.ids l.first l.initial.words l.row l.place l.left l.words
