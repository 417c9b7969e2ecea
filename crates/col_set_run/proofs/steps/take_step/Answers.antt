use Rattle.std.proofs.Common.{◌∙◌, ap, sym}
use Rattle.col_script.specs.Segments.{segment_of}
use Rattle.col_set_run.proofs.TakeLemmas.{takes-add, takes-compact, takes-drop}
use Rattle.col_set_run.proofs.steps.take_step.Goals as goal
use Rattle.col_set_script.specs.Steps.{drop_filled, step_of}

pub returns-in-Add-clause-takes : goal.returns-in-Add-clause-takes
returns-in-Add-clause-takes g c = λ x same.
    takes-add g.D.Disk.seen c.args.set.now c.add_segment.new.set c.args.out.now.items c.add_segment.result c.tell.ensures.compacts
    (segment_of c.in-Add.segment) c.add_segment.ensures.changes x (same ∙ ap step_of c.in-Add.is)

pub returns-in-Drop-clause-takes : goal.returns-in-Drop-clause-takes
returns-in-Drop-clause-takes g c = λ x same.
    takes-drop g.D.Disk.seen c.args.set.now c.drop_rows.new.self c.args.out.now.items c.drop_rows.result c.tell.ensures.compacts
    c.deref.result.now c.drop_rows.ensures x (same ∙ ap step_of c.in-Drop.is ∙ ap drop_filled (sym c.deref.ensures.value))

pub returns-in-Compact-clause-takes : goal.returns-in-Compact-clause-takes
returns-in-Compact-clause-takes g c = λ x same.
    takes-compact g.D.Disk.seen c.args.set.now c.compact.new.self c.args.out.now.items c.compact.result c.tell.ensures.compacts
    c.compact.ensures.changes x (same ∙ ap step_of c.in-Compact.is)
