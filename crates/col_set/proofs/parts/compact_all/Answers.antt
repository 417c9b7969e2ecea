use Rattle.std.proofs.Common.{[], refl, ap, ◌∙◌}
use Rattle.col_segments.specs.Live.{compacted}
use Rattle.col_segments.specs.Segments.{appended}
use Rattle.col_segments.proofs.MergeLemmas.{compacts-ok, rows-refused}
use Rattle.col_set.proofs.SetLemmas.{parts-err, parts-ok, parts-refused, stopped-known}
use Rattle.col_set.proofs.parts.compact_all.Goals as goal

pub returns-in-Err-clause-changes : goal.returns-in-Err-clause-changes
returns-in-Err-clause-changes g c =
    let old = c.args.journal.now in
    let hs = c.args.segments.now in
    parts-refused g.D.Disk.seen old.disk old.gate hs c.compacted.new.self c.args.failed.now c.in-Err.error (compacted hs)
    (g.met.D.Disk.laws old.disk).only_now c.requires.works c.requires.stands c.in-Err.ensures.same
    (rows-refused hs c.in-Err.error c.in-Err.ensures.refused)

pub returns-in-Ok-add_change-clause-changes : goal.returns-in-Ok-add_change-clause-changes
returns-in-Ok-add_change-clause-changes g c =
    let hs = c.args.segments.now in
    let after = c.in-Ok.compacted.segments in
    let new = c.add_change.new.journal in
    let is = compacts-ok hs after c.in-Ok.compacted.file c.in-Ok.ensures.ok in
    let makes = ap (λ b. appended b []) c.deref.ensures ∙ c.in-Ok.ensures.again in
    parts-ok g.D.Disk.seen c.args.journal.now.disk new.disk new.gate hs after after c.add_change.new.failed (compacted hs) is refl
    (c.in-Ok-add_change.ensures hs after (c.requires.stands c.requires.works) makes)

pub returns-in-Err-add_change-clause-changes : goal.returns-in-Err-add_change-clause-changes
returns-in-Err-add_change-clause-changes g c =
    let hs = c.args.segments.now in
    let after = c.in-Ok.compacted.segments in
    let new = c.add_change.new.journal in
    let is = compacts-ok hs after c.in-Ok.compacted.file c.in-Ok.ensures.ok in
    let makes = ap (λ b. appended b []) c.deref.ensures ∙ c.in-Ok.ensures.again in
    parts-err g.D.Disk.seen c.args.journal.now.disk new.disk new.gate hs after c.compacted.new.self c.add_change.new.failed
    (compacted hs) is c.in-Err-add_change.error c.in-Ok.ensures.same
    (c.in-Err-add_change.ensures hs after (c.requires.stands c.requires.works) makes)

pub returns-in-Err-add_change-clause-known : goal.returns-in-Err-add_change-clause-known
returns-in-Err-add_change-clause-known g c =
    let hs = c.args.segments.now in
    let after = c.in-Ok.compacted.segments in
    let makes = ap (λ b. appended b []) c.deref.ensures ∙ c.in-Ok.ensures.again in
    stopped-known c.in-Err-add_change.error
    (c.in-Err-add_change.ensures hs after (c.requires.stands c.requires.works) makes).known
