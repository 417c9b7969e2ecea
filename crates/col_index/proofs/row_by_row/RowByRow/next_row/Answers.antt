use Rattle.std.proofs.Common.{rules, sym, arith}
use Rattle.col_index.specs.Walked.{rows_found}
use Rattle.col_index.proofs.RankedRunLemmas.{drop_row, follow_found}
use Rattle.col_index.proofs.row_by_row.RowByRow.next_row.Goals as goal

pub row_from-requires : goal.row_from-requires
row_from-requires c = c.requires.ranked.ranked

pub overflow_add-at : goal.overflow_add-at
overflow_add-at c = let few = c.in_ok-row.ensures.few in search (rules, arith)

pub returns-clause-stands : goal.returns-clause-stands
returns-clause-stands c =
    let rows = rows_found c.args.self in
    let at = c.args.at.now in
    rw (c.from.ensures) (record {
      ranked = c.in_ok-row.ensures.behind;
      follow = follow_found rows at.inner c.in_ok-row.row at.place at.sum c.requires.follow (sym c.in_ok-row.ensures.row);
    })

pub returns-clause-value : goal.returns-clause-value
returns-clause-value c = drop_row (rows_found c.args.self) c.args.at.now.place c.in_ok-row.row (sym c.in_ok-row.ensures.row)
