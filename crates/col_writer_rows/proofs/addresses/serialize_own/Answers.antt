use Rattle.std.proofs.Common.{◌∙◌, sym}
use Rattle.col_model.specs.ColumnType as types
use Rattle.col_writer_rows.specs.Counted.{counts_of_rows}
use Rattle.col_writer_rows.proofs.RowLemmas.{sum-counts}
use Rattle.col_writer_rows.proofs.IndexLemmas.{is_counted, counted-written}
use Rattle.col_writer_rows.proofs.addresses.serialize_own.Goals as goal

pub serialize_indexed-requires-clause-counted : goal.serialize_indexed-requires-clause-counted
serialize_indexed-requires-clause-counted g c =
    is_counted (counts_of_rows c.args.num_rows c.args.docs.now) c.in_ok-index.index _ c.in_ok-index.ensures
    (sym c.requires.beside ∙ sym (sum-counts c.args.num_rows c.args.docs.now c.never_fall.ensures c.requires.below))

pub returns : goal.returns
returns g c =
    counted-written _ _ _ types.ip (counts_of_rows c.args.num_rows c.args.docs.now) c.args.addresses.now
    c.in_ok-index.index c.in_ok-index.ensures
    (sym c.requires.beside ∙ sym (sum-counts c.args.num_rows c.args.docs.now c.never_fall.ensures c.requires.below))
    c.serialize_indexed.ensures
