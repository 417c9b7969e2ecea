use Rattle.std.proofs.Common.{◌∙◌, ap, length, Some, unwrap_or, arith}
use Rattle.col_column.proofs.FirstLemmas.{length-firsts, value_at}
use Rattle.col_column.proofs.first_value_with_default.FirstValueWithDefaultColumnValues.get_val.Goals as goal

pub first-requires : goal.first-requires
first-requires g c =
    let column = c.self.inside.column in
    let long = length-firsts c.self.inside.default_value column.shape (g.V.ColumnValues.values column.values) in
    omega (arith, long, ap (λ s. length s.values) c.self.view_is, c.requires)

pub returns-in-Some : goal.returns-in-Some
returns-in-Some g c =
    let column = c.self.inside.column in
    let default = c.self.inside.default_value in
    value_at default column.shape (g.V.ColumnValues.values column.values) c.args.self.now.values c.args.idx
    c.first.result (ap (λ s. s.values) c.self.view_is) c.requires c.first.ensures
    ∙ ap (λ o. Some (unwrap_or o default)) c.in-Some.is

pub returns-in-None : goal.returns-in-None
returns-in-None g c =
    let column = c.self.inside.column in
    let default = c.self.inside.default_value in
    value_at default column.shape (g.V.ColumnValues.values column.values) c.args.self.now.values c.args.idx
    c.first.result (ap (λ s. s.values) c.self.view_is) c.requires c.first.ensures
    ∙ ap (λ o. Some (unwrap_or o default)) c.in-None.is
