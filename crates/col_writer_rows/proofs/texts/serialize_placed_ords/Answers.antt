use Rattle.std.proofs.Common.{◌∙◌, ap, sym, arith, length, sum}
use Rattle.std.specs.List.{zip}
use Rattle.col_writer_rows.proofs.RowLemmas.{placed-sum, placed-few, placed-count}
use Rattle.col_writer_rows.proofs.ColumnLemmas.{ordered-as}
use Rattle.col_writer_rows.proofs.texts.serialize_placed_ords.Goals as goal

pub serialize_sorted-requires-clause-rows : goal.serialize_sorted-requires-clause-rows
serialize_sorted-requires-clause-rows g c =
    omega (
      arith,
      ap length (c.deref.ensures.value ∙ c.in_ok-counts.ensures.0),
      placed-count c.args.row_docs.now c.args.docs.now c.args.ords.now,
      c.requires.rows,
    )

pub serialize_sorted-requires-clause-counted : goal.serialize_sorted-requires-clause-counted
serialize_sorted-requires-clause-counted g c =
    ap sum (c.deref.ensures.value ∙ c.in_ok-counts.ensures.0)
    ∙ placed-sum c.args.row_docs.now c.args.docs.now c.args.ords.now
    ∙ ap length (sym (c.deref_mut.ensures.value ∙ c.in_ok-counts.ensures.1))

pub serialize_sorted-requires-clause-few : goal.serialize_sorted-requires-clause-few
serialize_sorted-requires-clause-few g c =
    omega (
      arith,
      ap length (c.deref_mut.ensures.value ∙ c.in_ok-counts.ensures.1),
      placed-few c.args.row_docs.now c.args.docs.now c.args.ords.now c.requires.beside c.requires.placed,
      c.requires.beside,
      c.requires.few,
    )

pub returns : goal.returns
returns g c =
    ordered-as _ _ _ c.args.sorts c.args.row_docs.now (zip c.args.docs.now c.args.ords.now) _ _
    (c.deref.ensures.value ∙ c.in_ok-counts.ensures.0) (c.deref_mut.ensures.value ∙ c.in_ok-counts.ensures.1)
    c.serialize_sorted.ensures
