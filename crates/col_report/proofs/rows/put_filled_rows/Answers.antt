use Rattle.std.proofs.Common.{[], ◌∙◌, sym, arith}
use Rattle.col_print.proofs.PutsLemmas.{puts_none, puts_past, puts_then}
use Rattle.col_report.proofs.FilledLemmas.{left-all, left-no_row, left-no_value, left-row, left-some, left-within, left-less, left-stopped}
use Rattle.col_report.proofs.PutLemmas.{bare-lines, lines-put, printed}
use Rattle.col_report.proofs.rows.put_filled_rows.Goals as goal

pub loop-start-init : goal.loop-start-init
loop-start-init g c = record {
  stands = c.walk-at.ensures.stands;
  left = (
    [],
    puts_none _,
    left-all g.P.PrintCells.kind (g.P.PrintCells.cell c.args.cells.now) (g.V.ColumnValues.values c.args.values.now)
        _ [] _ c.requires.counted (c.walk-at.ensures.front ∙ c.requires.rows),
  );
}

pub end_at-end-requires-clause-row : goal.end_at-end-requires-clause-row
end_at-end-requires-clause-row g c = left-row _ _ _ c.loop-start.invariant.left.2 c.in-Some.ensures.value

pub put_filled_row-requires-clause-filled : goal.put_filled_row-requires-clause-filled
put_filled_row-requires-clause-filled g c =
    left-some _ _ _ c.loop-start.invariant.left.2 c.in-Some.ensures.value c.end_at-end.ensures

pub put_filled_row-requires-clause-within : goal.put_filled_row-requires-clause-within
put_filled_row-requires-clause-within g c =
    left-within _ _ _ c.loop-start.invariant.left.2 c.in-Some.ensures.value c.end_at-end.ensures

pub loop-start-preserved : goal.loop-start-preserved
loop-start-preserved g c = record {
  stands = c.in-Some.ensures.stands;
  left = (
    _,
    puts_then _ _ _ _ _ c.loop-start.invariant.left.1 (bare-lines _ _ _ c.put_filled_row.ensures),
    left-less _ _ _ c.loop-start.invariant.left.2 c.in-Some.ensures.value c.end_at-end.ensures (printed _ _),
  );
}

pub loop-start-smaller : goal.loop-start-smaller
loop-start-smaller g c =
    let some = left-some _ _ _ c.loop-start.invariant.left.2 c.in-Some.ensures.value c.end_at-end.ensures in
    omega (arith, some, c.loop-start-test.true, c.num_vals-count.ensures)

pub returns-then-is_refused : goal.returns-then-is_refused
returns-then-is_refused g c =
    lines-put _ _ _ _ (left-stopped _ _ _ c.loop-start.invariant.left.2)
    (puts_past _ _ _ _ (sym c.is_refused.ensures ∙ c.if-is_refused.true) c.loop-start.invariant.left.1)

pub returns-in_default : goal.returns-in_default
returns-in_default g c =
    lines-put _ _ _ _ (left-no_row _ _ _ [] c.in_default.ensures.value.0 c.loop-start.invariant.left.2) c.loop-start.invariant.left.1

pub returns : goal.returns
returns g c =
    lines-put _ _ _ _ (left-no_value _ _ _ [] (omega (arith, c.loop-start-test.false, c.num_vals-count.ensures))
    c.loop-start.invariant.left.2) c.loop-start.invariant.left.1
