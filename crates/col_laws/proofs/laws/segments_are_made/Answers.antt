use Rattle.col_laws.proofs.ScriptLemmas.{segments-are-made}
use Rattle.col_laws.proofs.laws.segments_are_made.Goals as goal

pub returns : goal.returns
returns c = segments-are-made
