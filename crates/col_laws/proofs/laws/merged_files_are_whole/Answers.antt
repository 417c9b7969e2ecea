use Rattle.col_laws.proofs.WholeLemmas.{merged-files-are-whole}
use Rattle.col_laws.proofs.laws.merged_files_are_whole.Goals as goal

pub returns : goal.returns
returns c = merged-files-are-whole
