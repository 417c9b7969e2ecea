use Rattle.std.proofs.Common.{length, ap, arith}
use Rattle.col_indexer.specs.Spelling.{row_set_by}
use Rattle.col_indexer.proofs.SetSpellingLemmas.{rows-below, runs-of-fit}
use Rattle.col_indexer.proofs.serialize_rows.serialize_in_runs.Goals as goal

pub of_rows-requires : goal.of_rows-requires
of_rows-requires g c = rows-below (row_set_by c.args.num_rows c.args.rows.now) c.requires

pub serialize_runs-requires : goal.serialize_runs-requires
serialize_runs-requires g c =
    omega (arith, ap length c.in_ok-runs.ensures, runs-of-fit (row_set_by c.args.num_rows c.args.rows.now) c.requires)
