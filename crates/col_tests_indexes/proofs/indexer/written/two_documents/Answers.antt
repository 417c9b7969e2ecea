use Rattle.std.proofs.Common.{refl, lit<}
use Rattle.col_tests_indexes.proofs.indexer.written.two_documents.Goals as goal

pub returns-clause-index : goal.returns-clause-index
returns-clause-index c = record { offsets = record { rows = refl; starts = refl }; fits = lit< tt }
