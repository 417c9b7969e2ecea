use Rattle.std.proofs.Common.{length, ap, ◌∙◌, subst}
use Rattle.col_numbers.specs.NumValues.{num_values_of}
use Rattle.col_column.specs.Columns.{IsCounted}
use Rattle.col_merge_slot.proofs.OwnLemmas.{texts-own}
use Rattle.col_merge_slot.proofs.told.texts_are_own.Goals as goal

pub returns : goal.returns
returns c =
    let column = c.args.column.now in
    texts-own column.terms column.ords.shape (num_values_of column.ords.values)
    (subst (λ ords. IsCounted ords.shape (length (num_values_of ords.values)))
    (c.ords.ensures ∙ ap (λ x. x.ords) c.bytes_column.ensures) c.values_are_counted.ensures)
