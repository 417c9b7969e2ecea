use Rattle.col_terms.proofs.TableLemmas.{empty_table}
use Rattle.col_terms.proofs.streamer.Streamer.empty.Goals as goal

pub between-requires-clause-table : goal.between-requires-clause-table
between-requires-clause-table c = empty_table
