use Rattle.std.proofs.Common.{◌∙◌, ap, arith, length}
use Rattle.col_writer_rows.proofs.RowLemmas.{placed-few}
use Rattle.col_writer_rows.proofs.ColumnLemmas.{codes-as}
use Rattle.col_writer_rows.proofs.limits.need_too_many_placed.Goals as goal

pub need_too_many-requires : goal.need_too_many-requires
need_too_many-requires c =
    omega (
      arith,
      ap length c.deref.ensures.value,
      ap length c.in_ok-_counts.ensures.1,
      placed-few c.args.row_docs.now c.args.docs.now c.args.addresses.now c.requires.beside c.requires.placed,
      c.requires.beside,
      c.requires.few,
    )

pub returns : goal.returns
returns c = codes-as c.need_too_many.result _ _ (c.deref.ensures.value ∙ c.in_ok-_counts.ensures.1) c.need_too_many.ensures
