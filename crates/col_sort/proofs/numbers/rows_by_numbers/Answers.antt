use Rattle.std.proofs.Common.{map}
use Rattle.std.proofs.lemmas.Result.{IfOk-weaker}
use Rattle.col_order.specs.Orders.{address_of}
use Rattle.col_sort.proofs.TypedLemmas.{numbers-sorted}
use Rattle.col_sort.proofs.NumberLemmas.{unsigned-sorted, signed-sorted}
use Rattle.col_sort.proofs.numbers.rows_by_numbers.Goals as goal

pub returns-then-are_of_type : goal.returns-then-are_of_type
returns-then-are_of_type c =
    IfOk-weaker c.rows_by_columns.result _ _ (λ rows h. unsigned-sorted c.args.reversed c.args.columns.now c.args.counts.now
    (map address_of rows.items) (c.are_of_type.ensures c.if-are_of_type.true) c.requires.rows h) c.rows_by_columns.ensures

pub returns-then-are_of_type-2 : goal.returns-then-are_of_type-2
returns-then-are_of_type-2 c =
    IfOk-weaker c.rows_by_columns-then-are_of_type-2.result _ _ (λ rows h. signed-sorted c.args.reversed c.args.columns.now
    c.args.counts.now (map address_of rows.items) (c.are_of_type-2.ensures c.if-are_of_type-2.true) c.requires.rows h)
    c.rows_by_columns-then-are_of_type-2.ensures

pub returns : goal.returns
returns c =
    IfOk-weaker c.rows_by_columns-2.result _ _ (λ rows h. numbers-sorted c.args.reversed c.args.columns.now c.args.counts.now
    (map address_of rows.items) c.requires.rows h) c.rows_by_columns-2.ensures
