use Rattle.std.proofs.Common.{◌≡◌, true, false, ◌∙◌, arith}
use Rattle.std.proofs.lemmas.Bool.{lt-ltb, le-ltb}
use Rattle.col_index.specs.Sets.{holds}
use Rattle.col_index.proofs.RankLaws.{rows_rise}
use Rattle.col_index.proofs.HeldLaws.{holds-rank}
use Rattle.col_index.proofs.RowRangeLemmas.{range_start, range_end-held, range_end-none}
use Rattle.col_index.proofs.SetLemmas.{few_rows}
use Rattle.col_index.proofs.row_runs.RowRuns.range.Goals as goal

pub overflow_add-result : goal.overflow_add-result
overflow_add-result c =
    let s = c.args.self.now in
    let own = c.rows_rise.ensures in
    let held : holds s.rows c.args.row_id ≡ true = c.rank_bound-bound.ensures.held ∙ lt-ltb _ _ (omega arith) in
    let inside = (holds-rank s.rows c.args.row_id (rows_rise s own) held).0 in
    omega (arith, inside, c.rank_bound-bound.ensures.count, few_rows s.num_rows s.rows own)

pub returns-then-bound-clause-start : goal.returns-then-bound-clause-start
returns-then-bound-clause-start c =
    let s = c.args.self.now in
    let start = range_start s c.args.row_id c.rows_rise.ensures c.requires in
    omega (arith, start, c.rank_bound-bound.ensures.count)

pub returns-then-bound-clause-end : goal.returns-then-bound-clause-end
returns-then-bound-clause-end c =
    let s = c.args.self.now in
    let held : holds s.rows c.args.row_id ≡ true = c.rank_bound-bound.ensures.held ∙ lt-ltb _ _ (omega arith) in
    let behind = range_end-held s c.args.row_id c.rows_rise.ensures c.requires held in
    omega (arith, behind, c.rank_bound-bound.ensures.count)

pub returns-else-bound-clause-start : goal.returns-else-bound-clause-start
returns-else-bound-clause-start c =
    let s = c.args.self.now in
    let start = range_start s c.args.row_id c.rows_rise.ensures c.requires in
    omega (arith, start, c.rank_bound-bound.ensures.count)

pub returns-else-bound-clause-end : goal.returns-else-bound-clause-end
returns-else-bound-clause-end c =
    let s = c.args.self.now in
    let free : holds s.rows c.args.row_id ≡ false = c.rank_bound-bound.ensures.held ∙ le-ltb _ _ (omega arith) in
    let behind = range_end-none s c.args.row_id c.rows_rise.ensures c.requires free in
    omega (arith, behind, c.rank_bound-bound.ensures.count)
