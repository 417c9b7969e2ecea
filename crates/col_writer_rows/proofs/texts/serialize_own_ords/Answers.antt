use Rattle.std.proofs.Common.{◌∙◌, ap, map, refl}
use Rattle.std.specs.List.{range_with_len, zip}
use Rattle.col_model.specs.Dictionary.{cut}
use Rattle.col_model.specs.U64List.{joined_lists}
use Rattle.col_writer_rows.specs.Counted.{counts_of_rows}
use Rattle.col_writer_rows.specs.Rows.{numbers_in_order}
use Rattle.col_writer_rows.proofs.RowLemmas.{lent-whole}
use Rattle.col_writer_rows.proofs.ColumnLemmas.{counted-as, own-counts, own-values}
use Rattle.col_writer_rows.proofs.SortLemmas.{ordered-rows}
use Rattle.col_writer_rows.proofs.texts.serialize_own_ords.Goals as goal

pub returns : goal.returns
returns g c =
    let ds = range_with_len 0 c.args.num_rows in
    let both = ordered-rows c.args.sorts ds (zip c.args.docs.now c.args.ords.items) _ c.args.ords.items _
    (own-counts c.args.num_rows ds c.args.docs.now c.args.ords.items refl c.requires.beside)
    (own-values c.args.num_rows ds c.args.docs.now c.args.ords.items refl c.never_fall.ensures c.requires.below
    c.requires.beside) (c.deref.ensures.value
    ∙ lent-whole _ _ _ (c.sort_docs_if.auto.numbers ∙ c.deref_mut.ensures.len) ∙ c.in_ok-sort_docs_if.ensures
    ∙ ap (λ xs. joined_lists (map (numbers_in_order c.args.sorts) (cut (counts_of_rows c.args.num_rows c.args.docs.now) xs)))
    c.deref_mut.ensures.value) in
    counted-as _ _ _ _ _ _ _ both.0 both.1 c.serialize_in_order.ensures
