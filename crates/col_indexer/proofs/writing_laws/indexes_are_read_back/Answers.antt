use Rattle.col_indexer.proofs.SetSpellingLemmas.{row_set-back}
use Rattle.col_indexer.proofs.SpellingLemmas.{row_offsets-back, index-back}
use Rattle.col_indexer.proofs.writing_laws.indexes_are_read_back.Goals as goal

pub returns : goal.returns
returns c = record { rows = row_set-back; offsets = row_offsets-back; index = index-back }
