-- Bars of a column's values are those of its cells.
use Rattle.std.proofs.Common.{length, ap, subst}
use Rattle.col_model.specs.Cells.{bool_cell, unsigned_cell}
use Rattle.col_model.specs.Table.{number}
use Rattle.col_column.specs.Columns.{IsCounted}
use Rattle.col_dynamic.specs.Dynamic.{dynamic_shape, value_count}
use Rattle.col_dynamic.specs.declared.dynamic_column.DynamicColumn.TheVariants as columns
use Rattle.col_numbers.specs.NumValues.{num_values_of}
use Rattle.col_look.proofs.drawn.bars.Goals as goal
use Rattle.col_look.proofs.DrawnLemmas.{all-seen, bars-of-column, bars-seen}

pub returns-in-Bool-clause-ok : goal.returns-in-Bool-clause-ok
returns-in-Bool-clause-ok c =
    let own = c.in-Bool.column in
    let counted = subst (λ x. IsCounted (dynamic_shape x) (value_count x)) c.in-Bool.is c.values_are_counted.ensures in
    bars-of-column c.number_bars.result c.args.column.now (columns.Bool own) c.args.count c.in-Bool.is
    (bars-seen c.number_bars.result bool_cell own.shape (num_values_of own.values) (num_values_of c.values.result.now) c.args.count
    (ap num_values_of c.values.ensures) counted c.number_bars.ensures.ok)

pub returns-in-Bool-clause-all : goal.returns-in-Bool-clause-all
returns-in-Bool-clause-all c =
    all-seen c.number_bars.result c.args.column.now (columns.Bool c.in-Bool.column) c.args.count (num_values_of c.values.result.now)
    c.in-Bool.is (ap (λ v. length (num_values_of v)) c.values.ensures) c.values_are_counted.ensures c.number_bars.ensures.all

pub returns-in-I64-clause-ok : goal.returns-in-I64-clause-ok
returns-in-I64-clause-ok c =
    let own = c.in-I64.column in
    let counted = subst (λ x. IsCounted (dynamic_shape x) (value_count x)) c.in-I64.is c.values_are_counted.ensures in
    bars-of-column c.number_bars-in-I64.result c.args.column.now (columns.I64 own) c.args.count c.in-I64.is
    (bars-seen c.number_bars-in-I64.result number own.shape (num_values_of own.values) (num_values_of c.values-in-I64.result.now) c.args.count
    (ap num_values_of c.values-in-I64.ensures) counted c.number_bars-in-I64.ensures.ok)

pub returns-in-I64-clause-all : goal.returns-in-I64-clause-all
returns-in-I64-clause-all c =
    all-seen c.number_bars-in-I64.result c.args.column.now (columns.I64 c.in-I64.column) c.args.count (num_values_of c.values-in-I64.result.now)
    c.in-I64.is (ap (λ v. length (num_values_of v)) c.values-in-I64.ensures) c.values_are_counted.ensures c.number_bars-in-I64.ensures.all

pub returns-in-U64-clause-ok : goal.returns-in-U64-clause-ok
returns-in-U64-clause-ok c =
    let own = c.in-U64.column in
    let counted = subst (λ x. IsCounted (dynamic_shape x) (value_count x)) c.in-U64.is c.values_are_counted.ensures in
    bars-of-column c.number_bars-in-U64.result c.args.column.now (columns.U64 own) c.args.count c.in-U64.is
    (bars-seen c.number_bars-in-U64.result unsigned_cell own.shape (num_values_of own.values) (num_values_of c.values-in-U64.result.now) c.args.count
    (ap num_values_of c.values-in-U64.ensures) counted c.number_bars-in-U64.ensures.ok)

pub returns-in-U64-clause-all : goal.returns-in-U64-clause-all
returns-in-U64-clause-all c =
    all-seen c.number_bars-in-U64.result c.args.column.now (columns.U64 c.in-U64.column) c.args.count (num_values_of c.values-in-U64.result.now)
    c.in-U64.is (ap (λ v. length (num_values_of v)) c.values-in-U64.ensures) c.values_are_counted.ensures c.number_bars-in-U64.ensures.all

pub returns-in-DateTime-clause-ok : goal.returns-in-DateTime-clause-ok
returns-in-DateTime-clause-ok c =
    let own = c.in-DateTime.column in
    let counted = subst (λ x. IsCounted (dynamic_shape x) (value_count x)) c.in-DateTime.is c.values_are_counted.ensures in
    bars-of-column c.number_bars-in-DateTime.result c.args.column.now (columns.DateTime own) c.args.count c.in-DateTime.is
    (bars-seen c.number_bars-in-DateTime.result number own.shape (num_values_of own.values) (num_values_of c.values-in-DateTime.result.now) c.args.count
    (ap num_values_of c.values-in-DateTime.ensures) counted c.number_bars-in-DateTime.ensures.ok)

pub returns-in-DateTime-clause-all : goal.returns-in-DateTime-clause-all
returns-in-DateTime-clause-all c =
    all-seen c.number_bars-in-DateTime.result c.args.column.now (columns.DateTime c.in-DateTime.column) c.args.count (num_values_of c.values-in-DateTime.result.now)
    c.in-DateTime.is (ap (λ v. length (num_values_of v)) c.values-in-DateTime.ensures) c.values_are_counted.ensures c.number_bars-in-DateTime.ensures.all
