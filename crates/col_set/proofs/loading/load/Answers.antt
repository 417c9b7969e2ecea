use Rattle.col_set.proofs.OpenLemmas.{opened-moments, loaded-moments}
use Rattle.col_set.proofs.loading.load.Goals as goal

pub returns-in-Err-Failed-clause-any_moment : goal.returns-in-Err-Failed-clause-any_moment
returns-in-Err-Failed-clause-any_moment g c = opened-moments _ _ (g.D.Disk.seen c.args.disk.now).told c.ready.ensures.any_moment

pub returns-in-Err-Memory-clause-any_moment : goal.returns-in-Err-Memory-clause-any_moment
returns-in-Err-Memory-clause-any_moment g c = opened-moments _ _ (g.D.Disk.seen c.args.disk.now).told c.ready.ensures.any_moment

pub returns-clause-any_moment : goal.returns-clause-any_moment
returns-clause-any_moment g c =
    loaded-moments _ _ _ (g.D.Disk.seen c.args.disk.now).told c.ready.ensures.any_moment
    (g.met.D.Disk.laws c.ready.new.disk).counts_now c.replay.ensures.stays.0.images
