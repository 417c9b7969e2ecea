use Rattle.std.proofs.Common.{IfSome, List, ap, ◌∙◌, subst}
use Rattle.col_segments.specs.Segments.{HeldTable}
use Rattle.col_set.specs.Sets.{SeenSet, EachStands}
use Rattle.col_set.proofs.SetLemmas.{now-stands}
use Rattle.col_set.proofs.set.SegmentSet.into_disk.Goals as goal

pub returns-clause-stands : goal.returns-clause-stands
returns-clause-stands g c works =
    let s = c.self.inside in
    let disk = g.D.Disk.seen s.journal.disk in
    let held = ap (λ (x : SeenSet _). x.failed) c.self.view_is ∙ works in
    subst (λ (hs : List HeldTable). IfSome disk.told (λ _. EachStands disk.images hs)) (ap (λ (x : SeenSet _). x.held) c.self.view_is)
    (now-stands disk s.journal.gate s.segments (c.self.invariant held))
