use Rattle.std.proofs.Common.{refl, ap, ◌∙◌}
use Rattle.col_segments.specs.Segments.{appended}
use Rattle.col_segments.proofs.AddLemmas.{appended-behind}
use Rattle.col_set.proofs.SetLemmas.{parts-err, parts-ok, parts-refused}
use Rattle.col_set.proofs.parts.append_file.Goals as goal

pub returns-in-Err : goal.returns-in-Err
returns-in-Err g c =
    let old = c.args.journal.now in
    let hs = c.args.segments.now in
    parts-refused g.D.Disk.seen old.disk old.gate hs c.stage_file.new.segments c.args.failed.now c.in-Err.error
    (appended c.args.file.items hs) (g.met.D.Disk.laws old.disk).only_now c.requires.works c.requires.stands c.in-Err.ensures.kept
    c.in-Err.ensures.err

pub returns-in-Ok-add_change : goal.returns-in-Ok-add_change
returns-in-Ok-add_change g c =
    let hs = c.args.segments.now in
    let after = c.stage_file.new.segments in
    let new = c.add_change.new.journal in
    let is = c.in-Ok.ensures.ok.1 in
    let makes = ap (λ b. appended b hs) (c.deref.ensures ∙ c.in-Ok.ensures.ok.0) ∙ is in
    parts-ok g.D.Disk.seen c.args.journal.now.disk new.disk new.gate hs after after c.add_change.new.failed
    (appended c.args.file.items hs) is refl (c.in-Ok-add_change.ensures hs after (c.requires.stands c.requires.works) makes)

pub returns : goal.returns
returns g c =
    let hs = c.args.segments.now in
    let after = c.stage_file.new.segments in
    let new = c.add_change.new.journal in
    let is = c.in-Ok.ensures.ok.1 in
    let makes = ap (λ b. appended b hs) (c.deref.ensures ∙ c.in-Ok.ensures.ok.0) ∙ is in
    let last = appended-behind c.args.file.items hs after is in
    parts-err g.D.Disk.seen c.args.journal.now.disk new.disk new.gate hs after c.pop.new.self c.add_change.new.failed
    (appended c.args.file.items hs) is c.in-Err-add_change.error (c.pop.ensures.last hs last.0 last.1)
    (c.in-Err-add_change.ensures hs after (c.requires.stands c.requires.works) makes)
