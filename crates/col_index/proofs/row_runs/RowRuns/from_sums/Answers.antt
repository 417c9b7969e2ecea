use Rattle.std.proofs.Common.{Some, subst, sym, ap, ◌∙◌}
use Rattle.std.proofs.lemmas.Option.{same_Some}
use Rattle.std.proofs.lemmas.Result.{err_from_is_err_and}
use Rattle.col_numbers.proofs.BlockReaderLemmas.{refuses-list}
use Rattle.col_model.specs.Index.{RowSet}
use Rattle.col_numbers.specs.Readers.{list_of}
use Rattle.col_index.specs.Runs.{AreRunTables, rows_of_runs}
use Rattle.col_index.specs.Sets.{set_by}
use Rattle.col_index.proofs.RunHeldLemmas.{starts_set, set_of_starts}
use Rattle.col_index.proofs.row_runs.RowRuns.from_sums.Goals as goal

pub returns-in_err-starts : goal.returns-in_err-starts
returns-in_err-starts c =
    let p = err_from_is_err_and c.from_residual.result c.from_residual.ensures.1 in
    let starts : RowSet = record { num_rows = c.args.num_rows; rows = list_of c.args.starts } in
    rw (p.1, p.2) (refuses-list c.in_err-starts.field-0.0 (set_by c.args.num_rows (list_of c.args.starts))
    (Some (rows_of_runs starts c.args.sums.before.items))
    (λ none. absurd (starts_set starts c.args.sums.before.items c.requires.summed none)) c.in_err-starts.ensures)

pub invariant_of-result : goal.invariant_of-result
invariant_of-result c =
    let starts : RowSet = record { num_rows = c.args.num_rows; rows = list_of c.args.starts } in
    let kept = same_Some starts c.in_ok-starts.starts
    (sym (set_of_starts starts c.args.sums.before.items c.requires.summed) ∙ c.in_ok-starts.ensures) in
    subst (λ (s : RowSet). AreRunTables s c.args.sums.before.items c.args.sums.gaps.items) kept c.requires

pub returns : goal.returns
returns c =
    let starts : RowSet = record { num_rows = c.args.num_rows; rows = list_of c.args.starts } in
    let kept = same_Some starts c.in_ok-starts.starts
    (sym (set_of_starts starts c.args.sums.before.items c.requires.summed) ∙ c.in_ok-starts.ensures) in
    ap (λ (s : RowSet). Some (rows_of_runs s c.args.sums.before.items)) kept
