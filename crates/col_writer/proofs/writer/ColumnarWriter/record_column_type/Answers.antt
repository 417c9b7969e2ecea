use Rattle.std.proofs.Common.{refl, ap, false}
use Rattle.col_model.specs.ColumnType as types
use Rattle.col_types.specs.Cells.{bool_cell, unsigned_cell}
use Rattle.col_types.specs.Kinds.{kind_of}
use Rattle.col_writer_columns.specs.Columns.{text_entry, plain_entry}
use Rattle.col_writer_columns.specs.Values.{time_cell}
use Rattle.col_writer_columns.proofs.EntryLemmas.{text-new, plain-new}
use Rattle.col_writer_columns.proofs.TypingLemmas.{text-typed, plain-typed, exactly-records}
use Rattle.col_writer.specs.Columns.{columns_of}
use Rattle.col_writer.proofs.TypingLemmas.{unsorted, type-asked, ok-records}
use Rattle.col_writer.proofs.writer.ColumnarWriter.record_column_type.Goals as goal

pub returns-in-I64 : goal.returns-in-I64
returns-in-I64 c =
    let w = c.self.inside in
    let m = columns_of w.numerical w.bytes w.strs w.bools w.ip_addrs w.datetimes in
    let is = ap kind_of c.in-I64.is in
    type-asked m (λ e. e) w.numerical c.change.new.self c.args.name.now _ types.i64
    c.args.sort_values_within_row false c.args.self.now c.change.result _ _ refl c.self.view_is is
    (unsorted c.args.sort_values_within_row _ types.i64 is c.requires refl) (λ e empty. empty)
    (λ e f h. exactly-records e f _ _ h) c.change.ensures

pub returns-in-U64 : goal.returns-in-U64
returns-in-U64 c =
    let w = c.self.inside in
    let m = columns_of w.numerical w.bytes w.strs w.bools w.ip_addrs w.datetimes in
    let is = ap kind_of c.in-U64.is in
    type-asked m (λ e. e) w.numerical c.change-in-U64.new.self c.args.name.now _ types.u64
    c.args.sort_values_within_row false c.args.self.now c.change-in-U64.result _ _ refl c.self.view_is is
    (unsorted c.args.sort_values_within_row _ types.u64 is c.requires refl) (λ e empty. empty)
    (λ e f h. exactly-records e f _ _ h) c.change-in-U64.ensures

pub returns-in-Bytes : goal.returns-in-Bytes
returns-in-Bytes c =
    let w = c.self.inside in
    let m = columns_of w.numerical w.bytes w.strs w.bools w.ip_addrs w.datetimes in
    let is = ap kind_of c.in-Bytes.is in
    let f = text_entry types.bytes in
    let sorts = c.args.sort_values_within_row in
    let r = c.change-in-Bytes.result in
    type-asked m f w.bytes c.change-in-Bytes.new.self c.args.name.now _ types.bytes
    sorts sorts c.args.self.now r _ _ refl c.self.view_is is refl (text-new types.bytes)
    (λ v u h. ok-records (f v) (f u) r _ h.0 (text-typed types.bytes v u sorts h.1 h.2 h.3 refl)) c.change-in-Bytes.ensures

pub returns-in-Str : goal.returns-in-Str
returns-in-Str c =
    let w = c.self.inside in
    let m = columns_of w.numerical w.bytes w.strs w.bools w.ip_addrs w.datetimes in
    let is = ap kind_of c.in-Str.is in
    let f = text_entry types.str in
    let sorts = c.args.sort_values_within_row in
    let r = c.change-in-Str.result in
    type-asked m f w.strs c.change-in-Str.new.self c.args.name.now _ types.str
    sorts sorts c.args.self.now r _ _ refl c.self.view_is is refl (text-new types.str)
    (λ v u h. ok-records (f v) (f u) r _ h.0 (text-typed types.str v u sorts h.1 h.2 h.3 refl)) c.change-in-Str.ensures

pub returns-in-Bool : goal.returns-in-Bool
returns-in-Bool c =
    let w = c.self.inside in
    let m = columns_of w.numerical w.bytes w.strs w.bools w.ip_addrs w.datetimes in
    let is = ap kind_of c.in-Bool.is in
    let f = plain_entry types.bool bool_cell in
    let r = c.change-in-Bool.result in
    type-asked m f w.bools c.change-in-Bool.new.self c.args.name.now _ types.bool
    c.args.sort_values_within_row false c.args.self.now r _ _ refl c.self.view_is is
    (unsorted c.args.sort_values_within_row _ types.bool is c.requires refl) (λ v e. plain-new types.bool bool_cell v e.0 e.1)
    (λ v u h. ok-records (f v) (f u) r _ h.0 (plain-typed types.bool bool_cell v u h.1 h.2 refl)) c.change-in-Bool.ensures

pub returns-in-IpAddr : goal.returns-in-IpAddr
returns-in-IpAddr c =
    let w = c.self.inside in
    let m = columns_of w.numerical w.bytes w.strs w.bools w.ip_addrs w.datetimes in
    let is = ap kind_of c.in-IpAddr.is in
    let f = plain_entry types.ip unsigned_cell in
    let r = c.change-in-IpAddr.result in
    type-asked m f w.ip_addrs c.change-in-IpAddr.new.self c.args.name.now _ types.ip
    c.args.sort_values_within_row false c.args.self.now r _ _ refl c.self.view_is is
    (unsorted c.args.sort_values_within_row _ types.ip is c.requires refl) (λ v e. plain-new types.ip unsigned_cell v e.0 e.1)
    (λ v u h. ok-records (f v) (f u) r _ h.0 (plain-typed types.ip unsigned_cell v u h.1 h.2 refl)) c.change-in-IpAddr.ensures

pub returns-in-DateTime : goal.returns-in-DateTime
returns-in-DateTime c =
    let w = c.self.inside in
    let m = columns_of w.numerical w.bytes w.strs w.bools w.ip_addrs w.datetimes in
    let is = ap kind_of c.in-DateTime.is in
    let f = plain_entry types.datetime time_cell in
    let r = c.change-in-DateTime.result in
    type-asked m f w.datetimes c.change-in-DateTime.new.self c.args.name.now _ types.datetime
    c.args.sort_values_within_row false c.args.self.now r _ _ refl c.self.view_is is
    (unsorted c.args.sort_values_within_row _ types.datetime is c.requires refl) (λ v e. plain-new types.datetime time_cell v e.0 e.1)
    (λ v u h. ok-records (f v) (f u) r _ h.0 (plain-typed types.datetime time_cell v u h.1 h.2 refl)) c.change-in-DateTime.ensures
