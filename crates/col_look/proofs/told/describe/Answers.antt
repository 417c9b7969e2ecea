-- A description by the parts of a column tells of it.
use Rattle.col_look.proofs.SeenLemmas.{told-is}
use Rattle.col_look.proofs.told.describe.Goals as goal

pub returns : goal.returns
returns c =
    told-is (record {
      column_type = c.column_type.result;
      cardinality = c.get_cardinality.result;
      num_values = c.num_values.result;
      num_rows_with_values = c.num_rows_with_values.result;
      distinct = c.in_ok-distinct.distinct;
      least = c.in_ok-least.least;
      greatest = c.in_ok-least.greatest;
    }) c.args.column.now c.values_are_counted.ensures c.column_type.ensures c.get_cardinality.ensures c.num_values.ensures
    c.num_rows_with_values.ensures c.in_ok-distinct.ensures c.in_ok-least.ensures
