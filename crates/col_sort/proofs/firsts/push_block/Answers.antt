use Rattle.col_sort.proofs.BlockLemmas.{pushed-next, pushed-last}
use Rattle.col_sort.proofs.firsts.push_block.Goals as goal

pub loop-at-preserved : goal.loop-at-preserved
loop-at-preserved g c =
    pushed-next (g.M.KeyOf.key c.args.keys.now) c.args.firsts.now c.loop-at.rows c.push.new.self _ c.args.segment_ord c.args.start
    c.loop-at.at c.index-firsts-at.result c.first_key.result c.loop-at-test.true c.index-firsts-at.is c.first_key.ensures
    c.loop-at.invariant c.in_ok-push.ensures

pub returns : goal.returns
returns g c =
    pushed-last (g.M.KeyOf.key c.args.keys.now) c.args.firsts.now c.loop-at.rows _ c.args.segment_ord _ c.loop-at.at
    c.loop-at-test.false c.loop-at.invariant
