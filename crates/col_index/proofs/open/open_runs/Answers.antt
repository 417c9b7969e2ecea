use Rattle.std.proofs.Common.{sym, subst}
use Rattle.std.specs.Int.{w64}
use Rattle.col_common.specs.Decoding.{Decodes}
use Rattle.col_common.specs.Reading.{parts_by_first}
use Rattle.std.proofs.lemmas.Result.{err_from_is_err_and}
use Rattle.col_model.specs.Index.{RowSet, run_set}
use Rattle.col_model.specs.U64List.{values64}
use Rattle.col_numbers.specs.Readers.{list_of}
use Rattle.col_numbers.proofs.BlockReaderLemmas.{refuses-list}
use Rattle.col_index.proofs.RunOpeningLemmas.{run_set-uncounted, run_set-unparted, run_set-unstarted, run_set-unread, run_set-read}
use Rattle.col_index.proofs.open.open_runs.Goals as goal

pub returns-in_default : goal.returns-in_default
returns-in_default c = run_set-uncounted c.args.bytes c.in_default.ensures

pub returns-in_err-first : goal.returns-in_err-first
returns-in_err-first c =
    let p = err_from_is_err_and c.from_residual.result c.from_residual.ensures.1 in
    rw (p.1, p.2) (refuses-list c.in_err-first.field-0.0 (parts_by_first w64 c.in-Some.lists) (run_set c.args.bytes)
    (run_set-unparted c.args.bytes c.in-Some.lists c.in-Some.num_rows c.in-Some.ensures)
    c.in_err-first.ensures)

pub returns-in_err-starts : goal.returns-in_err-starts
returns-in_err-starts c =
    let p = err_from_is_err_and c.from_residual-in_err-starts.result c.from_residual-in_err-starts.ensures.1 in
    rw (p.1, p.2) (refuses-list c.in_err-starts.field-0.0 (values64 c.in_ok-first.first) (run_set c.args.bytes)
    (run_set-unstarted c.args.bytes c.in-Some.lists c.in_ok-first.first c.in_ok-first.second c.in-Some.num_rows
    c.in-Some.ensures c.in_ok-first.ensures)
    c.in_err-starts.ensures)

pub returns-in_err-lengths : goal.returns-in_err-lengths
returns-in_err-lengths c =
    let p = err_from_is_err_and c.from_residual-in_err-lengths.result c.from_residual-in_err-lengths.ensures.1 in
    rw (p.1, p.2) (refuses-list c.in_err-lengths.field-0.0 (values64 c.in_ok-first.second) (run_set c.args.bytes)
    (run_set-unread c.args.bytes c.in-Some.lists c.in_ok-first.first c.in_ok-first.second (list_of c.in_ok-starts.starts)
    c.in-Some.num_rows c.in-Some.ensures c.in_ok-first.ensures c.in_ok-starts.ensures)
    c.in_err-lengths.ensures)

pub returns : goal.returns
returns c =
    subst (Decodes (λ (index : RowSet). index) c.from_runs.result) (sym (run_set-read c.args.bytes c.in-Some.lists
    c.in_ok-first.first c.in_ok-first.second (list_of c.in_ok-starts.starts) (list_of c.in_ok-lengths.lengths)
    c.in-Some.num_rows c.in-Some.ensures c.in_ok-first.ensures c.in_ok-starts.ensures c.in_ok-lengths.ensures))
    c.from_runs.ensures
