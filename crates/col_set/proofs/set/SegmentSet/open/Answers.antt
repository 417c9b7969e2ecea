use Rattle.std.proofs.Common.{Ok, false, refl, sym, subst}
use Rattle.col_set.specs.Sets.{OpensSet}
use Rattle.col_set.proofs.OpenLemmas.{set-opened}
use Rattle.col_set.proofs.set.SegmentSet.open.Goals as goal

pub returns-in-Ok : goal.returns-in-Ok
returns-in-Ok g c =
    let see = g.D.Disk.seen in
    let held = c.load.new.segments in
    subst (λ d. OpensSet see c.args.disk (Ok (record { disk = d; held = held; failed = false }))) (sym c.at.ensures.disk) record {
      ok = (refl, set-opened (see c.args.disk).told (see c.load.new.disk) c.in-Ok.gate held c.in-Ok.ensures.ok.1);
      refused = tt;
      later = c.in-Ok.ensures.later.1;
      tells = c.in-Ok.ensures.later.0;
      any_moment = c.in-Ok.ensures.any_moment;
    }
