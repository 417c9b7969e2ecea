use Rattle.std.proofs.Common.{Some, drop, sym, ap, ◌∙◌, arith}
use Rattle.col_index.proofs.RankedRunLemmas.{drop_row, follow_behind, follow_first}
use Rattle.col_index.proofs.WalkLemmas.{row-behind, row-few}
use Rattle.col_index.proofs.row_runs.RowRuns.next_row.Goals as goal

pub overflow_add-at : goal.overflow_add-at
overflow_add-at c =
    let s = c.args.self.now in
    let at = c.is_inside.new.at in
    let here = follow_first s.rows at.inner at.place at.sum c.is_inside.ensures.stands.follow
    (c.is_inside.ensures.inside c.if-is_inside.true) in
    let few = row-few s c.rows_rise.ensures (omega (arith, c.num_docs-num_docs.ensures, c.num_docs-num_docs.type_inv)) at.place
    (Some at.inner) (sym here) in
    omega (arith, few)

pub returns-then-is_inside-clause-stands : goal.returns-then-is_inside-clause-stands
returns-then-is_inside-clause-stands c =
    let s = c.args.self.now in
    let at = c.is_inside.new.at in
    let stands = c.is_inside.ensures.stands in
    let here = follow_first s.rows at.inner at.place at.sum stands.follow (c.is_inside.ensures.inside c.if-is_inside.true) in
    record {
      ranked =
          row-behind s c.rows_rise.ensures (omega (arith, c.num_docs-num_docs.ensures, c.num_docs-num_docs.type_inv)) at.place
          (Some at.inner) (sym here);
      follow = follow_behind s.rows at.inner at.place at.sum stands.follow;
    }

pub returns-then-is_inside-clause-value : goal.returns-then-is_inside-clause-value
returns-then-is_inside-clause-value c =
    let rows = c.args.self.now.rows in
    let at = c.is_inside.new.at in
    let here = follow_first rows at.inner at.place at.sum c.is_inside.ensures.stands.follow
    (c.is_inside.ensures.inside c.if-is_inside.true) in
    ap (λ place. drop place rows) (sym c.is_inside.ensures.place) ∙ drop_row rows at.place at.inner here
