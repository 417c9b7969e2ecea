use Rattle.std.proofs.Common.{◌∙◌, ap, length, sym}
use Rattle.col_column.proofs.FirstLemmas.{length-firsts}
use Rattle.col_column.proofs.first_value_with_default.FirstValueWithDefaultColumnValues.num_vals.Goals as goal

pub returns : goal.returns
returns g c =
    let column = c.self.inside.column in
    c.num_docs.ensures
    ∙ sym (length-firsts c.self.inside.default_value column.shape (g.V.ColumnValues.values column.values))
    ∙ ap (λ s. length s.values) c.self.view_is
