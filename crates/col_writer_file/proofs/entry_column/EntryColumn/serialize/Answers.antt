use Rattle.std.proofs.Common.{subst}
use Rattle.col_model.specs.Category as categories
use Rattle.col_model.specs.ColumnType as types
use Rattle.col_types.specs.Cells.{bool_cell, unsigned_cell}
use Rattle.col_writer_columns.specs.Values.{time_cell}
use Rattle.col_writer_file.specs.EntryColumns.{category_in, entry_in}
use Rattle.col_writer_file.specs.OnRows.{CanStand}
use Rattle.col_writer_file.proofs.StandLemmas.{text-below, text-fits, plain-below, address-fits}
use Rattle.col_writer_file.proofs.entry_column.EntryColumn.serialize.Goals as goal

pub serialize_texts-requires-clause-below : goal.serialize_texts-requires-clause-below
serialize_texts-requires-clause-below g c =
    text-below categories.bytes types.bytes c.in-Bytes.column.now c.args.order.now
    (subst (λ e. CanStand (category_in e) (entry_in e) c.args.order.now) c.in-Bytes.is c.requires)

pub serialize_texts-requires-clause-fits : goal.serialize_texts-requires-clause-fits
serialize_texts-requires-clause-fits g c =
    text-fits categories.bytes types.bytes c.in-Bytes.column.now c.args.order.now
    (subst (λ e. CanStand (category_in e) (entry_in e) c.args.order.now) c.in-Bytes.is c.requires)

pub serialize_texts-requires-in-Str-clause-below : goal.serialize_texts-requires-in-Str-clause-below
serialize_texts-requires-in-Str-clause-below g c =
    text-below categories.str types.str c.in-Str.column.now c.args.order.now
    (subst (λ e. CanStand (category_in e) (entry_in e) c.args.order.now) c.in-Str.is c.requires)

pub serialize_texts-requires-in-Str-clause-fits : goal.serialize_texts-requires-in-Str-clause-fits
serialize_texts-requires-in-Str-clause-fits g c =
    text-fits categories.str types.str c.in-Str.column.now c.args.order.now
    (subst (λ e. CanStand (category_in e) (entry_in e) c.args.order.now) c.in-Str.is c.requires)

pub serialize_bools-requires : goal.serialize_bools-requires
serialize_bools-requires g c =
    plain-below categories.bool types.bool bool_cell c.in-Bool.column.now c.args.order.now
    (subst (λ e. CanStand (category_in e) (entry_in e) c.args.order.now) c.in-Bool.is c.requires)

pub serialize_addresses-requires-clause-below : goal.serialize_addresses-requires-clause-below
serialize_addresses-requires-clause-below g c =
    plain-below categories.ip types.ip unsigned_cell c.in-IpAddr.column.now c.args.order.now
    (subst (λ e. CanStand (category_in e) (entry_in e) c.args.order.now) c.in-IpAddr.is c.requires)

pub serialize_addresses-requires-clause-codes : goal.serialize_addresses-requires-clause-codes
serialize_addresses-requires-clause-codes g c =
    address-fits c.in-IpAddr.column.now c.args.order.now
    (subst (λ e. CanStand (category_in e) (entry_in e) c.args.order.now) c.in-IpAddr.is c.requires)

pub serialize_times-requires : goal.serialize_times-requires
serialize_times-requires g c =
    plain-below categories.datetime types.datetime time_cell c.in-DateTime.column.now c.args.order.now
    (subst (λ e. CanStand (category_in e) (entry_in e) c.args.order.now) c.in-DateTime.is c.requires)
