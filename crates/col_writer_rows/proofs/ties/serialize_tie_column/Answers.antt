use Rattle.std.proofs.Common.{arith}
use Rattle.std.proofs.lemmas.Int.{ints}
use Rattle.col_writer_rows.proofs.TieLemmas.{ties-written}
use Rattle.col_writer_rows.proofs.ties.serialize_tie_column.Goals as goal

pub returns : goal.returns
returns g c =
    ties-written _ _ _ c.args.start _ c.args.num_docs (omega (arith, ints)) c.requires
    c.serialize_generated_tie_breaker_column.ensures.ok c.serialize_generated_tie_breaker_column.ensures.again
