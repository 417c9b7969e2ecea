use Rattle.col_tool.proofs.ImportLemmas.{text-import}
use Rattle.col_tool.proofs.exchanges.made_of_source.Goals as goal

pub returns-clause-among : goal.returns-clause-among
returns-clause-among g c = text-import c.made_of_text.result c.made_of_text.ensures.among
