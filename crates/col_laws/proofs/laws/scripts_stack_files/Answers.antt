use Rattle.col_laws.proofs.ScriptLemmas.{scripts-stack-files}
use Rattle.col_laws.proofs.laws.scripts_stack_files.Goals as goal

pub returns : goal.returns
returns c = scripts-stack-files
