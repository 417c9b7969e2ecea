use Rattle.std.proofs.Common.{sym, ◌∙◌}
use Rattle.std.proofs.lemmas.Result.{err_from_is_err_and}
use Rattle.std.specs.Int.{w64}
use Rattle.col_common.specs.Reading.{parts_by_first}
use Rattle.col_model.specs.Index.{row_set, row_offsets}
use Rattle.col_model.specs.U64List.{values64}
use Rattle.col_numbers.specs.Readers.{list_of}
use Rattle.col_numbers.proofs.BlockReaderLemmas.{refuses-list}
use Rattle.col_index.specs.Versions.{version_number}
use Rattle.col_index.proofs.OpeningLemmas.{row_offsets-unparted, row_offsets-unset, row_offsets-unread, row_offsets-read}
use Rattle.col_index.proofs.open.open_offsets.Goals as goal

pub returns-in_err-rows : goal.returns-in_err-rows
returns-in_err-rows c =
    let v = version_number c.args.format_version in
    let p = err_from_is_err_and c.from_residual.result c.from_residual.ensures.1 in
    rw (p.1, p.2) (refuses-list c.in_err-rows.field-0.0 (parts_by_first w64 c.args.bytes) (row_offsets v c.args.bytes)
    (row_offsets-unparted v c.args.bytes) c.in_err-rows.ensures)

pub returns-in_err-optional_index : goal.returns-in_err-optional_index
returns-in_err-optional_index c =
    let v = version_number c.args.format_version in
    let p = err_from_is_err_and c.from_residual-in_err-optional_index.result c.from_residual-in_err-optional_index.ensures.1 in
    rw (p.1, p.2) (refuses-list c.in_err-optional_index.field-0.0 (row_set v c.in_ok-rows.rows)
    (row_offsets v c.args.bytes)
    (row_offsets-unset v c.args.bytes c.in_ok-rows.rows c.in_ok-rows.starts c.in_ok-rows.ensures)
    c.in_err-optional_index.ensures)

pub returns-in_err-load_u64_values : goal.returns-in_err-load_u64_values
returns-in_err-load_u64_values c =
    let v = version_number c.args.format_version in
    let p = err_from_is_err_and c.from_residual-in_err-load_u64_values.result c.from_residual-in_err-load_u64_values.ensures.1 in
    rw (p.1, p.2) (refuses-list c.in_err-load_u64_values.field-0.0 (values64 c.in_ok-rows.starts)
    (row_offsets v c.args.bytes) (row_offsets-unread v c.args.bytes c.in_ok-rows.rows c.in_ok-rows.starts
    c.in_ok-optional_index.optional_index c.in_ok-rows.ensures c.in_ok-optional_index.ensures)
    c.in_err-load_u64_values.ensures)

pub returns-in-Some : goal.returns-in-Some
returns-in-Some c =
    row_offsets-read (version_number c.args.format_version) c.args.bytes c.in_ok-rows.rows c.in_ok-rows.starts
    (list_of c.in_ok-load_u64_values.field-0) c.in_ok-optional_index.optional_index c.in_ok-rows.ensures
    c.in_ok-optional_index.ensures c.in_ok-load_u64_values.ensures
    ∙ sym c.in-Some.ensures

pub returns-in-None : goal.returns-in-None
returns-in-None c =
    row_offsets-read (version_number c.args.format_version) c.args.bytes c.in_ok-rows.rows c.in_ok-rows.starts
    (list_of c.in_ok-load_u64_values.field-0) c.in_ok-optional_index.optional_index c.in_ok-rows.ensures
    c.in_ok-optional_index.ensures c.in_ok-load_u64_values.ensures
    ∙ sym c.in-None.ensures
