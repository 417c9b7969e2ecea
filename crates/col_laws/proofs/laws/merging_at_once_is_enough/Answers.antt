use Rattle.col_laws.proofs.SegmentLemmas.{merging-at-once-is-enough}
use Rattle.col_laws.proofs.laws.merging_at_once_is_enough.Goals as goal

pub returns : goal.returns
returns c = merging-at-once-is-enough
