use Rattle.std.proofs.Common.{subst}
use Rattle.col_set.specs.Sets.{ChangesSet}
use Rattle.col_set_run.proofs.AddingLemmas.{appended-segment}
use Rattle.col_set_run.proofs.adding.add_segment.Goals as goal

pub returns-clause-changes : goal.returns-clause-changes
returns-clause-changes g c = λ s fits.
    let made = (c.in-Ok.ensures s fits).ok in
    subst (ChangesSet g.D.Disk.seen c.args.set.now c.append.new.self c.append.result)
    (appended-segment s made.0 c.in-Ok.file.items c.args.set.now.held made.1 made.2) c.append.ensures
