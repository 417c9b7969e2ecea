use Rattle.std.proofs.Common.{arith}
use Rattle.col_numbers.specs.Readers.{list_of}
use Rattle.col_index.proofs.SearchLemmas.{middle, narrowed_done}
use Rattle.col_index.proofs.LowLemmas.{close_less, close_not_less}
use Rattle.col_index.proofs.row_lows.rank_by_lows.Goals as goal

pub loop-high-preserved-then-lows-middle : goal.loop-high-preserved-then-lows-middle
loop-high-preserved-then-lows-middle c =
    let low = c.loop-high.low in
    let high = c.loop-high.high in
    close_less (list_of c.args.rows.now) c.args.lows.now c.args.row low high c.requires.rising c.requires.lows
    c.loop-high.invariant (middle low high) (omega arith) (omega arith)
    (omega (arith, c.if-lows-middle.true, c.low_of-target.ensures))

pub loop-high-preserved : goal.loop-high-preserved
loop-high-preserved c =
    let low = c.loop-high.low in
    let high = c.loop-high.high in
    close_not_less (list_of c.args.rows.now) c.args.lows.now c.args.row low high c.requires.rising c.requires.lows
    c.loop-high.invariant (middle low high) (omega arith) (omega arith)
    (omega (arith, c.if-lows-middle.false, c.low_of-target.ensures))

pub returns-else-lows-low : goal.returns-else-lows-low
returns-else-lows-low c =
    let rows = list_of c.args.rows.now in
    let low = c.loop-low.low in
    let place = close_not_less rows c.args.lows.now c.args.row low c.loop-high.high c.requires.rising
    c.requires.lows c.loop-low.invariant low (omega arith) (omega arith)
    (omega (arith, c.if-lows-low.false, c.low_of-target.ensures)) in
    narrowed_done rows c.args.row low low (omega arith) place.narrowed

pub returns-after-loop-low : goal.returns-after-loop-low
returns-after-loop-low c =
    narrowed_done (list_of c.args.rows.now) c.args.row c.loop-low.low c.loop-high.high c.loop-low-test.false
    c.loop-low.invariant.narrowed
