use Rattle.std.proofs.Common.{sym}
use Rattle.col_model.specs.ColumnType as types
use Rattle.col_writer_columns.specs.Columns.{text_entry, plain_entry}
use Rattle.col_writer_columns.specs.Values.{time_cell}
use Rattle.col_writer.specs.Columns.{columns_of}
use Rattle.col_writer.proofs.EntryLemmas.{entry-found, entry-missing}
use Rattle.col_writer.proofs.OrderLemmas.{by-numerical, by-datetime, by-str, by-bytes, by-none}
use Rattle.col_writer.proofs.writer.ColumnarWriter.sort_order.Goals as goal

pub returns-in-Some : goal.returns-in-Some
returns-in-Some c =
    let w = c.self.inside in
    let m = columns_of w.numerical w.bytes w.strs w.bools w.ip_addrs w.datetimes in
    by-numerical (λ v. v.items) c.sort_order.result m c.args.self.now c.args.sort_field.now
    c.args.num_docs c.args.reversed c.in-Some.column.now
    c.self.view_is
    (entry-found (λ e. e) c.args.sort_field.now w.numerical c.in-Some.column.now (sym c.in-Some.ensures))
    c.sort_order.ensures

pub returns-in-Some-get : goal.returns-in-Some-get
returns-in-Some-get c =
    let w = c.self.inside in
    let m = columns_of w.numerical w.bytes w.strs w.bools w.ip_addrs w.datetimes in
    by-datetime (λ v. v.items) c.sort_order-in-Some-get.result m c.args.self.now c.args.sort_field.now
    c.args.num_docs c.args.reversed (plain_entry types.datetime time_cell c.in-Some-get.column.now)
    c.self.view_is
    (entry-missing (λ e. e) c.args.sort_field.now w.numerical (sym c.in_default.ensures))
    (entry-found (plain_entry types.datetime time_cell) c.args.sort_field.now w.datetimes
    c.in-Some-get.column.now (sym c.in-Some-get.ensures)) c.sort_order-in-Some-get.ensures

pub returns-in-Some-get-2 : goal.returns-in-Some-get-2
returns-in-Some-get-2 c =
    let w = c.self.inside in
    let m = columns_of w.numerical w.bytes w.strs w.bools w.ip_addrs w.datetimes in
    by-str (λ v. v.items) c.sort_order-in-Some-get-2.result m c.args.self.now c.args.sort_field.now
    c.args.num_docs c.args.reversed (text_entry types.str c.in-Some-get-2.column.now)
    c.self.view_is
    (entry-missing (λ e. e) c.args.sort_field.now w.numerical (sym c.in_default.ensures))
    (entry-missing (plain_entry types.datetime time_cell) c.args.sort_field.now w.datetimes
    (sym c.in_default-get.ensures))
    (entry-found (text_entry types.str) c.args.sort_field.now w.strs c.in-Some-get-2.column.now
    (sym c.in-Some-get-2.ensures)) (c.sort_order-in-Some-get-2.ensures types.str)

pub returns-in-Some-get-3 : goal.returns-in-Some-get-3
returns-in-Some-get-3 c =
    let w = c.self.inside in
    let m = columns_of w.numerical w.bytes w.strs w.bools w.ip_addrs w.datetimes in
    by-bytes (λ v. v.items) c.sort_order-in-Some-get-3.result m c.args.self.now c.args.sort_field.now
    c.args.num_docs c.args.reversed (text_entry types.bytes c.in-Some-get-3.column.now)
    c.self.view_is
    (entry-missing (λ e. e) c.args.sort_field.now w.numerical (sym c.in_default.ensures))
    (entry-missing (plain_entry types.datetime time_cell) c.args.sort_field.now w.datetimes
    (sym c.in_default-get.ensures))
    (entry-missing (text_entry types.str) c.args.sort_field.now w.strs (sym c.in_default-get-2.ensures))
    (entry-found (text_entry types.bytes) c.args.sort_field.now w.bytes c.in-Some-get-3.column.now
    (sym c.in-Some-get-3.ensures)) (c.sort_order-in-Some-get-3.ensures types.bytes)

pub returns : goal.returns
returns c =
    let w = c.self.inside in
    let m = columns_of w.numerical w.bytes w.strs w.bools w.ip_addrs w.datetimes in
    by-none (λ v. v.items) c.new.result m
    c.args.self.now c.args.sort_field.now c.args.num_docs c.args.reversed
    c.self.view_is
    (entry-missing (λ e. e) c.args.sort_field.now w.numerical (sym c.in_default.ensures))
    (entry-missing (plain_entry types.datetime time_cell) c.args.sort_field.now w.datetimes
    (sym c.in_default-get.ensures))
    (entry-missing (text_entry types.str) c.args.sort_field.now w.strs (sym c.in_default-get-2.ensures))
    (entry-missing (text_entry types.bytes) c.args.sort_field.now w.bytes
    (sym c.in_default-get-3.ensures)) c.new.ensures.items
