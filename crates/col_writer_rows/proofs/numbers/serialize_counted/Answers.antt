use Rattle.std.proofs.Common.{sym}
use Rattle.col_writer_rows.proofs.IndexLemmas.{is_counted, counted-written}
use Rattle.col_writer_rows.proofs.numbers.serialize_counted.Goals as goal

pub serialize_indexed-requires-clause-counted : goal.serialize_indexed-requires-clause-counted
serialize_indexed-requires-clause-counted g c =
    is_counted c.args.counts.now c.in_ok-index.index _ c.in_ok-index.ensures (sym c.requires.counted)

pub returns : goal.returns
returns g c t stores =
    counted-written _ _ _ t c.args.counts.now c.args.numbers.now c.in_ok-index.index c.in_ok-index.ensures
    (sym c.requires.counted) (c.serialize_indexed.ensures t stores)
