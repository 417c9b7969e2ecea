use Rattle.col_laws.proofs.SegmentLemmas.{files-merge-in-any-bracketing}
use Rattle.col_laws.proofs.laws.files_merge_in_any_bracketing.Goals as goal

pub returns : goal.returns
returns c = files-merge-in-any-bracketing
