use Rattle.std.proofs.Common.{sym, ◌∙◌}
use Rattle.col_numbers.specs.Readers.{list_of}
use Rattle.col_index.proofs.LowLemmas.{found_by_low, missed_by_low, missed_behind}
use Rattle.col_index.proofs.row_lows.rank_by_lows_if_exists.Goals as goal

pub returns-then-rank-high : goal.returns-then-rank-high
returns-then-rank-high c =
    missed_behind (list_of c.args.rows.now) c.args.lows.now c.args.row c.args.low c.args.high
    c.rank_by_lows-rank.result c.requires.rising c.requires.lows c.requires.part c.rank_by_lows-rank.ensures
    c.if-rank-high.true

pub returns-then-lows-rank : goal.returns-then-lows-rank
returns-then-lows-rank c =
    found_by_low (list_of c.args.rows.now) c.args.lows.now c.args.row c.args.low c.args.high
    c.rank_by_lows-rank.result c.requires.rising c.requires.lows c.requires.part c.rank_by_lows-rank.ensures
    c.if-rank-high.false (c.if-lows-rank.true ∙ c.low_of.ensures)

pub returns : goal.returns
returns c =
    missed_by_low (list_of c.args.rows.now) c.args.lows.now c.args.row c.args.low c.args.high
    c.rank_by_lows-rank.result c.requires.rising c.requires.lows c.requires.part c.rank_by_lows-rank.ensures
    c.if-rank-high.false (λ same. c.if-lows-rank.false (same ∙ sym c.low_of.ensures))
