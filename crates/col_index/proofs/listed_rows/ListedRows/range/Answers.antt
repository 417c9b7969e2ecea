use Rattle.std.proofs.Common.{◌+◌, sym, ap, ◌∙◌, arith}
use Rattle.col_index.proofs.RankLaws.{rows_rise}
use Rattle.col_index.proofs.HeldLaws.{holds-rank}
use Rattle.col_index.proofs.SetLemmas.{few_rows}
use Rattle.col_index.proofs.RowRangeLemmas.{range_past, range_start, range_end-held, range_end-none}
use Rattle.col_index.proofs.listed_rows.ListedRows.range.Goals as goal

pub returns-then-row_id-num_docs-clause-start : goal.returns-then-row_id-num_docs-clause-start
returns-then-row_id-num_docs-clause-start c =
    let s = c.args.self.now in
    sym (ap (λ p. p.0) (range_past s c.args.row_id (omega arith)))

pub returns-then-row_id-num_docs-clause-end : goal.returns-then-row_id-num_docs-clause-end
returns-then-row_id-num_docs-clause-end c =
    let s = c.args.self.now in
    sym (ap (λ p. p.1) (range_past s c.args.row_id (omega arith)))

pub overflow_add-result : goal.overflow_add-result
overflow_add-result c =
    let s = c.args.self.now in
    let own = c.rows_rise.ensures in
    let few = few_rows s.num_rows s.rows own in
    let inside = (holds-rank s.rows c.args.row_id (rows_rise s own) (sym c.holds_at.ensures ∙ c.if-holds_at.true)).0 in
    omega arith

pub returns-then-holds_at-clause-start : goal.returns-then-holds_at-clause-start
returns-then-holds_at-clause-start c =
    let s = c.args.self.now in
    let own = c.rows_rise.ensures in
    c.rank-rank.ensures ∙ sym (range_start s c.args.row_id own (omega arith))

pub returns-then-holds_at-clause-end : goal.returns-then-holds_at-clause-end
returns-then-holds_at-clause-end c =
    let s = c.args.self.now in
    let own = c.rows_rise.ensures in
    ap (λ n. n + 1) c.rank-rank.ensures
    ∙ sym (range_end-held s c.args.row_id own (omega arith) (sym c.holds_at.ensures ∙ c.if-holds_at.true))

pub returns-else-holds_at-clause-start : goal.returns-else-holds_at-clause-start
returns-else-holds_at-clause-start c =
    let s = c.args.self.now in
    let own = c.rows_rise.ensures in
    c.rank-rank.ensures ∙ sym (range_start s c.args.row_id own (omega arith))

pub returns-else-holds_at-clause-end : goal.returns-else-holds_at-clause-end
returns-else-holds_at-clause-end c =
    let s = c.args.self.now in
    let own = c.rows_rise.ensures in
    c.rank-rank.ensures ∙ sym (range_end-none s c.args.row_id own (omega arith) (sym c.holds_at.ensures ∙ c.if-holds_at.false))
