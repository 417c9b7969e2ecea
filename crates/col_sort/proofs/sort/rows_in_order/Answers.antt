use Rattle.std.proofs.Common.{map}
use Rattle.std.proofs.lemmas.Result.{IfOk-weaker}
use Rattle.col_order.specs.Orders.{address_of}
use Rattle.col_sort.proofs.TypedLemmas.{flags-sorted, times-sorted, addresses-sorted}
use Rattle.col_sort.proofs.AskedLemmas.{numbers-of, terms-of, type-of}
use Rattle.col_sort.proofs.sort.rows_in_order.Goals as goal

pub returns-in_ok-rows_by_numbers-in-I64-clause-ok :
    goal.returns-in_ok-rows_by_numbers-in-I64-clause-ok
returns-in_ok-rows_by_numbers-in-I64-clause-ok c =
    numbers-of c.args.column_type c.args.counts.now c.args.columns.now c.args.reversed _ c.in-I64.is
    c.in_ok-rows_by_numbers-in-I64.ensures

pub returns-in_ok-rows_by_columns-in-Bool-clause-ok :
    goal.returns-in_ok-rows_by_columns-in-Bool-clause-ok
returns-in_ok-rows_by_columns-in-Bool-clause-ok c =
    type-of c.args.column_type _ c.args.counts.now c.args.columns.now c.args.reversed _ c.in-Bool.is
    (flags-sorted c.args.reversed c.args.columns.now c.args.counts.now
    (map address_of c.in_ok-rows_by_columns-in-Bool.field-0.items) c.requires.rows c.in_ok-rows_by_columns-in-Bool.ensures)

pub returns-in_ok-rows_by_columns-in-DateTime-clause-ok :
    goal.returns-in_ok-rows_by_columns-in-DateTime-clause-ok
returns-in_ok-rows_by_columns-in-DateTime-clause-ok c =
    type-of c.args.column_type _ c.args.counts.now c.args.columns.now c.args.reversed _ c.in-DateTime.is
    (times-sorted c.args.reversed c.args.columns.now c.args.counts.now
    (map address_of c.in_ok-rows_by_columns-in-DateTime.field-0.items) c.requires.rows
    c.in_ok-rows_by_columns-in-DateTime.ensures)

pub returns-in_ok-rows_by_columns-in-IpAddr-clause-ok :
    goal.returns-in_ok-rows_by_columns-in-IpAddr-clause-ok
returns-in_ok-rows_by_columns-in-IpAddr-clause-ok c =
    type-of c.args.column_type _ c.args.counts.now c.args.columns.now c.args.reversed _ c.in-IpAddr.is
    (addresses-sorted c.args.reversed c.args.columns.now c.args.counts.now
    (map address_of c.in_ok-rows_by_columns-in-IpAddr.field-0.items) c.requires.rows
    c.in_ok-rows_by_columns-in-IpAddr.ensures)

pub returns-in-Str-clause-ok : goal.returns-in-Str-clause-ok
returns-in-Str-clause-ok c =
    IfOk-weaker c.rows_by_texts.result _ _ (λ rows h. terms-of c.args.column_type c.args.counts.now c.args.columns.now
    c.args.reversed (map address_of rows.items) c.in-Str.is h) c.rows_by_texts.ensures.ok
