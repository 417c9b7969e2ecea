use Rattle.std.proofs.Common.{length, ap, ◌∙◌, sym, subst}
use Rattle.std.specs.Prelude.{is_some}
use Rattle.col_column.specs.Columns.{IsCounted}
use Rattle.col_numbers.specs.NumValues.{num_values_of}
use Rattle.col_merge_slot.proofs.TextPartLemmas.{bytes-none, bytes-some}
use Rattle.col_merge_slot.proofs.texts.bytes_of.Goals as goal

pub returns-in_err-column-clause-read : goal.returns-in_err-column-clause-read
returns-in_err-column-clause-read c = ap is_some c.from_residual.ensures ∙ sym (bytes-none c.args.column (sym c.in_err-column.ensures))

pub returns-clause-read : goal.returns-clause-read
returns-clause-read c =
    let counted = subst (λ ords. IsCounted ords.shape (length (num_values_of ords.values))) c.ords.ensures c.values_are_counted.ensures in
    sym (bytes-some c.args.column c.in_ok-column.column (sym c.in_ok-column.ensures) counted).0

pub returns-clause-text : goal.returns-clause-text
returns-clause-text c =
    let counted = subst (λ ords. IsCounted ords.shape (length (num_values_of ords.values))) c.ords.ensures c.values_are_counted.ensures in
    (bytes-some c.args.column c.in_ok-column.column (sym c.in_ok-column.ensures) counted).1
