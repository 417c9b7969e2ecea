use Rattle.col_segments.proofs.MergeLemmas.{compacts-live}
use Rattle.col_set.proofs.set.SegmentSet.compact.Goals as goal
use Rattle.col_set.proofs.set.SegmentSet.compact.Goals.{in-Ok, in-Err}

pub returns-clause-live : goal.returns-clause-live
returns-clause-live g c = elim c.match-compact_file.branch [
  | in-Ok w ↦ rw w.result-is (compacts-live _ _ _ w.in-Ok.ensures.file)
  | in-Err w ↦ rw w.result-is tt
]
