use Rattle.col_model.proofs.DecodedColumns.{bytes-are}
use Rattle.col_terms.proofs.term_arena.bytes_fit.Goals as goal

pub returns : goal.returns
returns c = bytes-are c.args.bytes.now (λ k. (c.type_inv.bytes k).fits)
