use Rattle.std.proofs.Common.{IfSome, ap, ◌∙◌, subst}
use Rattle.col_set.specs.Sets.{SeenSet, EachStands}
use Rattle.col_set.proofs.SetLemmas.{now-stands}
use Rattle.col_set.proofs.set.SegmentSet.tell.Goals as goal

pub returns-clause-stands : goal.returns-clause-stands
returns-clause-stands g c works =
    let s = c.self.inside in
    let see = g.D.Disk.seen in
    let held = ap (λ (x : SeenSet _). x.failed) c.self.view_is ∙ works in
    subst (λ (x : SeenSet _). IfSome (see x.disk).told (λ _. EachStands (see x.disk).images x.held)) c.self.view_is
    (now-stands (see s.journal.disk) s.journal.gate s.segments (c.self.invariant held))

pub returns-clause-only_now : goal.returns-clause-only_now
returns-clause-only_now g c = (g.met.D.Disk.laws c.args.self.now.disk).only_now
