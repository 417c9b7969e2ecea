use Rattle.std.proofs.Common.{sym, ap, ◌∙◌}
use Rattle.col_model.specs.Index.{RowSet}
use Rattle.col_model.specs.Positions.{rank}
use Rattle.col_index.specs.Sets.{holds}
use Rattle.col_index.proofs.RunGapLemmas.{read_within, read_below, read_count, read_held}
use Rattle.col_index.proofs.row_runs.RowRuns.rank_bound.Goals as goal

pub overflow_sub-result : goal.overflow_sub-result
overflow_sub-result c =
    let r = c.self.inside in
    read_below r.starts r.before.items r.gaps.items c.self.invariant c.args.row_id c.count_upto-count.result
    c.count_upto-count.ensures c.as_slice-gaps.result.now c.as_slice-gaps.ensures.value

pub bounds-before-count : goal.bounds-before-count
bounds-before-count c =
    let r = c.self.inside in
    read_within r.starts r.before.items r.gaps.items c.self.invariant c.args.row_id c.count_upto-count.result
    c.count_upto-count.ensures c.as_slice-before.result.now c.as_slice-before.ensures.value

pub returns-clause-count : goal.returns-clause-count
returns-clause-count c =
    let r = c.self.inside in
    ap (λ (s : RowSet). rank s.rows c.args.row_id) (sym c.self.view_is)
    ∙ read_count r.starts r.before.items r.gaps.items c.self.invariant c.args.row_id c.count_upto-count.result
    c.count_upto-count.ensures c.as_slice-gaps.result.now c.as_slice-before.result.now c.as_slice-gaps.ensures.value
    c.as_slice-before.ensures.value

pub returns-clause-held : goal.returns-clause-held
returns-clause-held c =
    let r = c.self.inside in
    ap (λ (s : RowSet). holds s.rows c.args.row_id) (sym c.self.view_is)
    ∙ read_held r.starts r.before.items r.gaps.items c.self.invariant c.args.row_id c.count_upto-count.result
    c.count_upto-count.ensures c.as_slice-gaps.result.now c.as_slice-before.result.now c.as_slice-gaps.ensures.value
    c.as_slice-before.ensures.value
