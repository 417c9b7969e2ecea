use Rattle.col_terms.specs.TermTable.{terms_of}
use Rattle.col_terms.proofs.TableLemmas.{table_ascending}
use Rattle.col_terms.proofs.SearchLemmas.{first_from-at, first_from-gap}
use Rattle.col_terms.proofs.table.first_from.Goals as goal

pub returns-in-Ok : goal.returns-in-Ok
returns-in-Ok c =
    first_from-at (terms_of c.args.bytes.now) c.args.key.now c.in-Ok.ord
    (table_ascending c.args.bytes.now c.args.num_terms c.requires) c.in-Ok.ensures.found

pub returns-in-Err : goal.returns-in-Err
returns-in-Err c = first_from-gap (terms_of c.args.bytes.now) c.args.key.now c.in-Err.ord c.in-Err.ensures.absent
