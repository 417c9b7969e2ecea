use Rattle.std.proofs.Common.{length, ◌≤◌, sym, arith}
use Rattle.std.proofs.lemmas.Result.{on_ok_weaker}
use Rattle.col_column.specs.Columns.{rows_of_values}
use Rattle.col_column.proofs.FirstLemmas.{length-rows}
use Rattle.col_csv_export.proofs.TextLemmas.{past-appended, no-first, first-appended}
use Rattle.col_csv_export.proofs.fields.push_first.Goals as goal

pub returns-then-num_docs-row : goal.returns-then-num_docs-row
returns-then-num_docs-row g c =
    let seen = c.args.column.now in
    let rows = rows_of_values g.V.ColumnValues.values seen in
    let past : length rows ≤ c.args.row = omega (arith, length-rows seen.shape (g.V.ColumnValues.values seen.values)) in
    past-appended g.P.ValueTexts.kind (g.P.ValueTexts.cell c.args.texts.now) rows c.args.row _ past

pub returns-in_default : goal.returns-in_default
returns-in_default g c =
    no-first g.P.ValueTexts.kind (g.P.ValueTexts.cell c.args.texts.now)
    (rows_of_values g.V.ColumnValues.values c.args.column.now) c.args.row _ (sym c.in_default.ensures)

pub returns : goal.returns
returns g c =
    on_ok_weaker c.push-2.result (first-appended g.P.ValueTexts.kind (g.P.ValueTexts.cell c.args.texts.now)
    (rows_of_values g.V.ColumnValues.values c.args.column.now) c.args.row c.in-Some.value _ _ _ (sym c.in-Some.ensures)
    c.in_ok-push.ensures.items) c.push-2.ensures
