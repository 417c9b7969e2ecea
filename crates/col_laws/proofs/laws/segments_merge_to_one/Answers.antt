use Rattle.col_laws.proofs.ScriptLemmas.{segments-merge-to-one}
use Rattle.col_laws.proofs.laws.segments_merge_to_one.Goals as goal

pub returns : goal.returns
returns c = segments-merge-to-one
