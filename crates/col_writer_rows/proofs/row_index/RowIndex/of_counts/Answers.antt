use Rattle.std.proofs.Common.{sym, refl, subst}
use Rattle.col_writer_rows.specs.Counted.{CountsRows}
use Rattle.col_writer_rows.proofs.IndexLemmas.{full-counted, counts-indexed}
use Rattle.col_writer_rows.proofs.row_index.RowIndex.of_counts.Goals as goal

pub returns-in-Full : goal.returns-in-Full
returns-in-Full c =
    subst (CountsRows c.args.counts.now) (sym c.full.ensures) (full-counted c.args.counts.now
    c.tightest_cardinality-cardinality.result c.in-Full.is c.tightest_cardinality-cardinality.ensures)

pub returns : goal.returns
returns c =
    counts-indexed c.tightest_cardinality-cardinality.result _ c.args.counts.now c.in_ok-rows.rows.items
    c.in_ok-rows.starts.items c.in_default.not-Full c.tightest_cardinality-cardinality.ensures refl c.requires.rows
    c.requires.values c.in_ok-rows.ensures.0 c.in_ok-rows.ensures.1
