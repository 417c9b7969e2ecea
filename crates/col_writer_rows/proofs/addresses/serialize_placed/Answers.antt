use Rattle.std.proofs.Common.{◌∙◌, ap, sym, arith, length, sum}
use Rattle.col_model.specs.AddressList.{least_codes}
use Rattle.col_model.specs.ColumnType as types
use Rattle.col_writer_rows.proofs.RowLemmas.{placed-sum, placed-few, placed-count}
use Rattle.col_writer_rows.proofs.IndexLemmas.{is_counted, counted-written}
use Rattle.col_writer_rows.proofs.ColumnLemmas.{typed-as}
use Rattle.col_writer_rows.proofs.addresses.serialize_placed.Goals as goal

pub of_counts-requires-clause-rows : goal.of_counts-requires-clause-rows
of_counts-requires-clause-rows g c =
    omega (
      arith,
      ap length c.deref.ensures.value,
      ap length c.in_ok-counts.ensures.0,
      placed-count c.args.row_docs.now c.args.docs.now c.args.addresses.now,
      c.requires.rows,
    )

pub of_counts-requires-clause-values : goal.of_counts-requires-clause-values
of_counts-requires-clause-values g c =
    omega (
      arith,
      ap sum c.deref.ensures.value,
      ap sum c.in_ok-counts.ensures.0,
      placed-sum c.args.row_docs.now c.args.docs.now c.args.addresses.now,
      placed-few c.args.row_docs.now c.args.docs.now c.args.addresses.now c.requires.beside c.requires.placed,
      c.requires.beside,
      c.requires.few,
    )

pub serialize_indexed-requires-clause-few : goal.serialize_indexed-requires-clause-few
serialize_indexed-requires-clause-few g c =
    omega (
      arith,
      ap length c.deref-2.ensures.value,
      ap length c.in_ok-counts.ensures.1,
      placed-few c.args.row_docs.now c.args.docs.now c.args.addresses.now c.requires.beside c.requires.placed,
      c.requires.beside,
      c.requires.few,
    )

pub serialize_indexed-requires-clause-codes : goal.serialize_indexed-requires-clause-codes
serialize_indexed-requires-clause-codes g c =
    omega (arith, ap least_codes (c.deref-2.ensures.value ∙ c.in_ok-counts.ensures.1), c.requires.codes)

pub serialize_indexed-requires-clause-counted : goal.serialize_indexed-requires-clause-counted
serialize_indexed-requires-clause-counted g c =
    is_counted _ c.in_ok-index.index _ c.in_ok-index.ensures
    (ap length (c.deref-2.ensures.value ∙ c.in_ok-counts.ensures.1)
    ∙ sym (placed-sum c.args.row_docs.now c.args.docs.now c.args.addresses.now)
    ∙ ap sum (sym (c.deref.ensures.value ∙ c.in_ok-counts.ensures.0)))

pub returns : goal.returns
returns g c =
    typed-as _ _ _ types.ip _ _ _ _ (c.deref.ensures.value ∙ c.in_ok-counts.ensures.0) (c.deref-2.ensures.value ∙ c.in_ok-counts.ensures.1)
    (counted-written _ _ _ types.ip c.deref.result.now c.deref-2.result.now c.in_ok-index.index c.in_ok-index.ensures
    (ap length (c.deref-2.ensures.value ∙ c.in_ok-counts.ensures.1)
    ∙ sym (placed-sum c.args.row_docs.now c.args.docs.now c.args.addresses.now)
    ∙ ap sum (sym (c.deref.ensures.value ∙ c.in_ok-counts.ensures.0)))
    c.serialize_indexed.ensures)
