use Rattle.std.proofs.Common.{sym, ap, ◌∙◌, option_map}
use Rattle.std.proofs.lemmas.Result.{err_from_is_err_and}
use Rattle.col_common.specs.Ascending.{differences}
use Rattle.col_model.specs.Index.{offset_counts_v1}
use Rattle.col_model.specs.U64List.{values64}
use Rattle.col_numbers.specs.Readers.{list_of}
use Rattle.col_numbers.proofs.BlockReaderLemmas.{refuses-list}
use Rattle.col_index.proofs.OpeningLemmas.{offset_counts_v1-unread, offset_counts_v1-read}
use Rattle.col_index.proofs.open.open_old_offsets.Goals as goal

pub returns-in_err-load_u64_values : goal.returns-in_err-load_u64_values
returns-in_err-load_u64_values c =
    let p = err_from_is_err_and c.from_residual.result c.from_residual.ensures.1 in
    rw (p.1, p.2) (refuses-list c.in_err-load_u64_values.field-0.0 (values64 c.args.bytes) (offset_counts_v1 c.args.bytes)
    (offset_counts_v1-unread c.args.bytes) c.in_err-load_u64_values.ensures)

pub returns-in-Some : goal.returns-in-Some
returns-in-Some c =
    offset_counts_v1-read c.args.bytes (list_of c.in_ok-load_u64_values.field-0) c.in_ok-load_u64_values.ensures
    ∙ ap (option_map differences) (sym c.in-Some.ensures)

pub returns-in-None : goal.returns-in-None
returns-in-None c =
    offset_counts_v1-read c.args.bytes (list_of c.in_ok-load_u64_values.field-0) c.in_ok-load_u64_values.ensures
    ∙ ap (option_map differences) (sym c.in-None.ensures)
