use Rattle.std.proofs.Common.{ap}
use Rattle.col_model.specs.ColumnType as types
use Rattle.col_types.specs.Cells.{bool_cell, unsigned_cell}
use Rattle.col_types.specs.Kinds.{kind_of}
use Rattle.col_writer_columns.specs.Values.{time_cell}
use Rattle.col_csv_import.proofs.RecorderLemmas.{plain-new, text-new}
use Rattle.col_csv_import.proofs.recorder.Recorder.new.Goals as goal

pub returns-in-Bytes-clause-ok : goal.returns-in-Bytes-clause-ok
returns-in-Bytes-clause-ok c =
    text-new types.bytes _ c.texts.result (ap kind_of c.in-Bytes.is)
    c.texts.ensures.values c.texts.ensures.forced c.texts.ensures.sorts

pub returns-in-Str-clause-ok : goal.returns-in-Str-clause-ok
returns-in-Str-clause-ok c =
    text-new types.str _ c.texts-in-Str.result (ap kind_of c.in-Str.is)
    c.texts-in-Str.ensures.values c.texts-in-Str.ensures.forced c.texts-in-Str.ensures.sorts

pub returns-in-Bool-clause-ok : goal.returns-in-Bool-clause-ok
returns-in-Bool-clause-ok c =
    plain-new types.bool _ bool_cell c.plain.result (ap kind_of c.in-Bool.is)
    c.plain.ensures.column c.plain.ensures.forced

pub returns-in-IpAddr-clause-ok : goal.returns-in-IpAddr-clause-ok
returns-in-IpAddr-clause-ok c =
    plain-new types.ip _ unsigned_cell c.plain-in-IpAddr.result (ap kind_of c.in-IpAddr.is)
    c.plain-in-IpAddr.ensures.column c.plain-in-IpAddr.ensures.forced

pub returns-in-DateTime-clause-ok : goal.returns-in-DateTime-clause-ok
returns-in-DateTime-clause-ok c =
    plain-new types.datetime _ time_cell c.plain-in-DateTime.result (ap kind_of c.in-DateTime.is)
    c.plain-in-DateTime.ensures.column c.plain-in-DateTime.ensures.forced
