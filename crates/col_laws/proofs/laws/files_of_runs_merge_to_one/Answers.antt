use Rattle.col_laws.proofs.SegmentLemmas.{files-of-runs-merge-to-one}
use Rattle.col_laws.proofs.laws.files_of_runs_merge_to_one.Goals as goal

pub returns : goal.returns
returns c = files-of-runs-merge-to-one
