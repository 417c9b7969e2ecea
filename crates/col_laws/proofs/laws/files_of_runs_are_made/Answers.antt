use Rattle.col_laws.proofs.SegmentLemmas.{files-of-runs-are-made}
use Rattle.col_laws.proofs.laws.files_of_runs_are_made.Goals as goal

pub returns : goal.returns
returns c = files-of-runs-are-made
