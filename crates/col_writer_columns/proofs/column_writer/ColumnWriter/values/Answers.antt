use Rattle.std.proofs.Common.{sym, ap, ◌∙◌, map}
use Rattle.std.proofs.lemmas.Slice.Zip.{seconds-zip}
use Rattle.col_writer_columns.proofs.column_writer.ColumnWriter.values.Goals as goal

pub returns-clause-values : goal.returns-clause-values
returns-clause-values g c =
    c.deref.ensures.value
    ∙ sym (seconds-zip c.self.inside.docs c.self.inside.values.items (sym c.self.invariant.many))
    ∙ ap (map (λ p. p.1)) c.self.view_is
