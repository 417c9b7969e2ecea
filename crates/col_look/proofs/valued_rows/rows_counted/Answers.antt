-- How many rows have a value, by the kinds of indexes.
use Rattle.std.proofs.Common.{length, sym, ◌∙◌, ap}
use Rattle.col_column.specs.Columns.{counts_by}
use Rattle.col_index.specs.Indexes.{shape_of}
use Rattle.col_model.specs.Positions.{rows_with_value}
use Rattle.col_look.proofs.ValuedLemmas.{all-valued, none-valued, set-valued}
use Rattle.col_look.proofs.valued_rows.rows_counted.Goals as goal

pub returns-in-Empty : goal.returns-in-Empty
returns-in-Empty c =
    none-valued c.in-Empty.num_docs ∙ ap (λ i. length (rows_with_value (counts_by (shape_of i) c.args.num_values))) (sym c.in-Empty.is)

pub returns-in-Full : goal.returns-in-Full
returns-in-Full c =
    all-valued c.args.num_values
    ∙ ap (λ i. length (rows_with_value (counts_by (shape_of i) c.args.num_values))) (sym c.in-Full.is)

pub returns-in-Optional : goal.returns-in-Optional
returns-in-Optional c =
    set-valued c.in-Optional.set _ c.rows_rise.ensures c.num_non_nulls.ensures
    ∙ ap (λ i. length (rows_with_value (counts_by (shape_of i) c.args.num_values))) (sym c.in-Optional.is)
