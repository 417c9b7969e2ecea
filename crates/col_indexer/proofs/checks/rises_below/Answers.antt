use Rattle.std.proofs.Common.{sym, ap, ◌∙◌}
use Rattle.col_indexer.proofs.CheckLemmas.{rise_from, rise_front}
use Rattle.col_indexer.proofs.checks.rises_below.Goals as goal

pub loop-next-init : goal.loop-next-init
loop-next-init g c =
    let items = g.I.Iterable.items c.args.list.now in
    record {
      stands = c.walk-at.ensures.stands;
      test = rise_front c.args.bound items ∙ ap (rise_from 0 c.args.bound) (sym c.walk-at.ensures.front);
    }
