use Rattle.std.proofs.Common.{◌+◌, arith}
use Rattle.col_numbers.specs.Readers.{list_of}
use Rattle.col_index.proofs.SearchLemmas.{middle, narrowed_done}
use Rattle.col_index.proofs.StartCountLemmas.{between_taken, between_free}
use Rattle.col_index.proofs.run_starts.count_between.Goals as goal

pub loop-low-preserved-then-nexts-middle : goal.loop-low-preserved-then-nexts-middle
loop-low-preserved-then-nexts-middle c =
    let low = c.loop-low.low in
    let high = c.loop-low.high in
    between_taken (list_of c.args.rows.now) c.args.nexts.now c.args.row_id c.requires.rising c.requires.nexts low high
    (middle low high) c.loop-low.invariant (omega arith) (omega arith) c.if-nexts-middle.true

pub loop-low-preserved : goal.loop-low-preserved
loop-low-preserved c =
    let low = c.loop-low.low in
    let high = c.loop-low.high in
    between_free (list_of c.args.rows.now) c.args.nexts.now c.args.row_id c.requires.rising c.requires.nexts low high
    (middle low high) c.loop-low.invariant (omega arith) (omega arith) c.if-nexts-middle.false

pub returns : goal.returns
returns c =
    narrowed_done (list_of c.args.rows.now) (c.args.row_id + 1) c.loop-low.low c.loop-low.high c.loop-low-test.false
    c.loop-low.invariant
