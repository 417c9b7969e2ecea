use Rattle.std.proofs.Common.{◌++◌, ◌∙◌, ap, sym, arith, take, length-append, length-take, append-nil}
use Rattle.col_codecs.specs.ColumnStats.{collected_of}
use Rattle.col_codecs.proofs.StatsLemmas.{collected-count}
use Rattle.col_codecs.proofs.BoundLemmas.{collected-push}
use Rattle.col_codecs.proofs.stats_collector.collect_bounded.Goals as goal

pub loop-at-init : goal.loop-at-init
loop-at-init c xs e = e ∙ ap collected_of (sym (append-nil xs))

pub collect-requires : goal.collect-requires
collect-requires c =
    let xs = c.requires.room.0 in
    let held = xs ++ take c.loop-at.at c.args.vals.now in
    omega (
      arith,
      collected-count c.loop-at.collector held (c.loop-at.invariant xs c.requires.room.1),
      length-append xs (take c.loop-at.at c.args.vals.now),
      length-take c.loop-at.at c.args.vals.now,
      c.requires.room.2,
    )

pub loop-at-preserved : goal.loop-at-preserved
loop-at-preserved c xs e =
    collected-push c.collect.new.self xs c.args.vals.now c.loop-at.at c.loop-at-test.true
    (c.collect.ensures (xs ++ take c.loop-at.at c.args.vals.now) (c.loop-at.invariant xs e))

pub widen_by-requires-clause-room : goal.widen_by-requires-clause-room
widen_by-requires-clause-room c = omega (arith, collected-count c.args.collector c.requires.room.0 c.requires.room.1, c.requires.room.2)
