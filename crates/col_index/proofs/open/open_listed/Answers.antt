use Rattle.std.proofs.Common.{sym, subst}
use Rattle.col_common.specs.Decoding.{Decodes}
use Rattle.std.proofs.lemmas.Result.{err_from_is_err_and}
use Rattle.col_model.specs.Index.{RowSet, listed_set}
use Rattle.col_model.specs.U64List.{values64}
use Rattle.col_numbers.specs.Readers.{list_of}
use Rattle.col_numbers.proofs.BlockReaderLemmas.{refuses-list}
use Rattle.col_index.proofs.OpeningLemmas.{listed_set-uncounted, listed_set-unread, listed_set-read}
use Rattle.col_index.proofs.open.open_listed.Goals as goal

pub returns-in_default : goal.returns-in_default
returns-in_default c = listed_set-uncounted c.args.bytes c.in_default.ensures

pub returns-in_err-load_u64_values : goal.returns-in_err-load_u64_values
returns-in_err-load_u64_values c =
    let p = err_from_is_err_and c.from_residual.result c.from_residual.ensures.1 in
    rw (p.1, p.2) (refuses-list c.in_err-load_u64_values.field-0.0 (values64 c.in-Some.rows) (listed_set c.args.bytes)
    (listed_set-unread c.args.bytes c.in-Some.rows c.in-Some.num_rows c.in-Some.ensures)
    c.in_err-load_u64_values.ensures)

pub returns : goal.returns
returns c =
    subst (Decodes (λ (index : RowSet). index) c.from_rows.result) (sym (listed_set-read c.args.bytes c.in-Some.rows
    (list_of c.in_ok-load_u64_values.field-0) c.in-Some.num_rows c.in-Some.ensures c.in_ok-load_u64_values.ensures))
    c.from_rows.ensures
