use Rattle.std.proofs.Common.{replicate, length, sym, ap, ◌∙◌, ◌≡◌, ◌-◌, arith}
use Rattle.std.specs.List.{range_with_len}
use Rattle.col_column.specs.Columns.{counts_by}
use Rattle.col_index.specs.Indexes.{shape_of}
use Rattle.col_index.proofs.CountLaws.{set_counts-rows}
use Rattle.col_report.specs.Printed.{PutsLines}
use Rattle.col_report.proofs.EndLemmas.{rows-each}
use Rattle.col_report.proofs.FilledLemmas.{lines-by_shape, none-put}
use Rattle.col_report.proofs.rows.put_rows_of.Goals as goal

pub put_filled_rows-requires-clause-rows : goal.put_filled_rows-requires-clause-rows
put_filled_rows-requires-clause-rows g c =
    let n = c.num_vals-num_rows.result in
    let whole : n - 0 ≡ n = omega arith in
    ap (range_with_len 0) whole ∙ rows-each n

pub put_filled_rows-requires-in-Optional-clause-rows : goal.put_filled_rows-requires-in-Optional-clause-rows
put_filled_rows-requires-in-Optional-clause-rows g c =
    c.iter_non_null_docs-rows.ensures ∙ sym (set_counts-rows c.in-Optional.index c.rows_rise.ensures)

pub returns-in-Empty : goal.returns-in-Empty
returns-in-Empty g c =
    let xs = g.V.ColumnValues.values c.args.values.now in
    let out = g.O.Out.seen c.args.out.now in
    lines-by_shape g.P.PrintCells.kind (g.P.PrintCells.cell c.args.cells.now) xs (PutsLines out out)
    (shape_of c.args.index.now) _
    (ap (λ i. counts_by (shape_of i) (length xs)) c.in-Empty.is) (none-put _ _ xs c.in-Empty.num_docs out)

pub returns-in-Full : goal.returns-in-Full
returns-in-Full g c =
    let xs = g.V.ColumnValues.values c.args.values.now in
    lines-by_shape g.P.PrintCells.kind (g.P.PrintCells.cell c.args.cells.now) xs
    (PutsLines (g.O.Out.seen c.args.out.now) (g.O.Out.seen c.put_filled_rows.new.out))
    (shape_of c.args.index.now) _
    (ap (λ i. counts_by (shape_of i) (length xs)) c.in-Full.is ∙ ap (λ n. replicate n 1) (sym c.num_vals-num_rows.ensures))
    c.put_filled_rows.ensures

pub returns-in-Optional : goal.returns-in-Optional
returns-in-Optional g c =
    let xs = g.V.ColumnValues.values c.args.values.now in
    lines-by_shape g.P.PrintCells.kind (g.P.PrintCells.cell c.args.cells.now) xs
    (PutsLines (g.O.Out.seen c.args.out.now) (g.O.Out.seen c.put_filled_rows-in-Optional.new.out))
    (shape_of c.args.index.now) _
    (ap (λ i. counts_by (shape_of i) (length xs)) c.in-Optional.is) c.put_filled_rows-in-Optional.ensures

pub returns-in-Multivalued : goal.returns-in-Multivalued
returns-in-Multivalued g c =
    let xs = g.V.ColumnValues.values c.args.values.now in
    lines-by_shape g.P.PrintCells.kind (g.P.PrintCells.cell c.args.cells.now) xs
    (PutsLines (g.O.Out.seen c.args.out.now) (g.O.Out.seen c.put_filled_rows-in-Multivalued.new.out))
    (shape_of c.args.index.now) _
    (ap (λ i. counts_by (shape_of i) (length xs)) c.in-Multivalued.is) c.put_filled_rows-in-Multivalued.ensures
