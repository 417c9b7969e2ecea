use Rattle.std.proofs.Common.{refl}
use Rattle.col_dynamic.specs.Versions.{version_number}
use Rattle.col_model.specs.Column.{column}
use Rattle.col_model.specs.ColumnType as types
use Rattle.col_dynamic_open.proofs.LenientLemmas.{no_codes}
use Rattle.col_dynamic_open.proofs.open_lenient.open_column_u64_lenient.Goals as goal

pub returns-in-I64-clause-codes : goal.returns-in-I64-clause-codes
returns-in-I64-clause-codes c =
    rw c.in-I64.is (no_codes types.i64 refl c.args.bytes c.open_i64.result
    (column c.args.bytes types.i64 (version_number c.args.format_version) c.args.num_rows) c.open_i64.ensures)

pub returns-in-U64-clause-codes : goal.returns-in-U64-clause-codes
returns-in-U64-clause-codes c =
    rw c.in-U64.is (no_codes types.u64 refl c.args.bytes c.open_u64.result
    (column c.args.bytes types.u64 (version_number c.args.format_version) c.args.num_rows) c.open_u64.ensures)

pub returns-in-Bytes-clause-codes : goal.returns-in-Bytes-clause-codes
returns-in-Bytes-clause-codes c =
    rw c.in-Bytes.is (no_codes types.bytes refl c.args.bytes c.open_bytes.result
    (column c.args.bytes types.bytes (version_number c.args.format_version) c.args.num_rows) c.open_bytes.ensures)

pub returns-in-Str-clause-codes : goal.returns-in-Str-clause-codes
returns-in-Str-clause-codes c =
    rw c.in-Str.is (no_codes types.str refl c.args.bytes c.open_str.result
    (column c.args.bytes types.str (version_number c.args.format_version) c.args.num_rows) c.open_str.ensures)

pub returns-in-Bool-clause-codes : goal.returns-in-Bool-clause-codes
returns-in-Bool-clause-codes c =
    rw c.in-Bool.is (no_codes types.bool refl c.args.bytes c.open_bool.result
    (column c.args.bytes types.bool (version_number c.args.format_version) c.args.num_rows) c.open_bool.ensures)

pub returns-in-DateTime-clause-codes : goal.returns-in-DateTime-clause-codes
returns-in-DateTime-clause-codes c =
    rw c.in-DateTime.is (no_codes types.datetime refl c.args.bytes c.open_datetime.result
    (column c.args.bytes types.datetime (version_number c.args.format_version) c.args.num_rows)
    c.open_datetime.ensures)
