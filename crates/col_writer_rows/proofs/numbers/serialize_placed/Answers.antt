use Rattle.std.proofs.Common.{◌∙◌, ap, sym, arith, length, sum}
use Rattle.col_writer_rows.proofs.RowLemmas.{placed-sum, placed-few, placed-count}
use Rattle.col_writer_rows.proofs.ColumnLemmas.{counted-as}
use Rattle.col_writer_rows.proofs.numbers.serialize_placed.Goals as goal

pub place_values-requires-clause-placed : goal.place_values-requires-clause-placed
place_values-requires-clause-placed g c = c.requires.placed.below

pub serialize_counted-requires-clause-rows : goal.serialize_counted-requires-clause-rows
serialize_counted-requires-clause-rows g c =
    omega (
      arith,
      ap length c.deref.ensures.value,
      ap length c.in_ok-counts.ensures.0,
      placed-count c.args.row_docs.now c.args.docs.now c.args.numbers.now,
      c.requires.rows,
    )

pub serialize_counted-requires-clause-counted : goal.serialize_counted-requires-clause-counted
serialize_counted-requires-clause-counted g c =
    ap sum (c.deref.ensures.value ∙ c.in_ok-counts.ensures.0)
    ∙ placed-sum c.args.row_docs.now c.args.docs.now c.args.numbers.now
    ∙ ap length (sym (c.deref-2.ensures.value ∙ c.in_ok-counts.ensures.1))

pub serialize_counted-requires-clause-few : goal.serialize_counted-requires-clause-few
serialize_counted-requires-clause-few g c =
    omega (
      arith,
      ap length c.deref-2.ensures.value,
      ap length c.in_ok-counts.ensures.1,
      placed-few c.args.row_docs.now c.args.docs.now c.args.numbers.now c.requires.beside c.requires.placed,
      c.requires.beside,
      c.requires.few,
    )

pub returns : goal.returns
returns g c =
    counted-as _ _ _ _ _ _ _ (c.deref.ensures.value ∙ c.in_ok-counts.ensures.0)
    (c.deref-2.ensures.value ∙ c.in_ok-counts.ensures.1) c.serialize_counted.ensures
