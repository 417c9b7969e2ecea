use Rattle.std.proofs.Common.{Err, sym, ap, subst, ◌∙◌}
use Rattle.col_journal.specs.Journal.{Change}
use Rattle.col_set.specs.Sets.{LeavesChange}
use Rattle.std.specs.Prelude.{Ok}
use Rattle.col_common.specs.declared.error.ColumnarError.TheVariants.{OutOfMemory}
use Rattle.col_set.proofs.LeaveLemmas.{change-done, change-failed, change-wanting}
use Rattle.col_set.proofs.change.add_change.Goals as goal

pub returns-in-Ok : goal.returns-in-Ok
returns-in-Ok g c hs after stands makes =
    let old = g.D.Disk.seen c.args.journal.now.disk in
    let new = g.D.Disk.seen c.append.new.self.disk in
    let gate = c.append.new.self.gate in
    let change : Change = record { kind = c.args.kind; bytes = c.args.bytes.now } in
    subst (λ noted. LeavesChange old new gate hs after noted (Ok tt)) (sym c.requires)
    (change-done old new c.args.journal.now.gate gate hs after change c.append.result c.append.ensures.adds c.append.ensures.later
    stands makes c.in-Ok.is)

pub returns-in-Err-Failed : goal.returns-in-Err-Failed
returns-in-Err-Failed g c hs after stands makes =
    let old = g.D.Disk.seen c.args.journal.now.disk in
    let new = g.D.Disk.seen c.append.new.self.disk in
    let change : Change = record { kind = c.args.kind; bytes = c.args.bytes.now } in
    change-failed old new c.args.journal.now.gate c.append.new.self.gate hs after change c.append.result c.append.ensures.adds
    c.append.ensures.later stands makes (c.in-Err-Failed.is ∙ ap Err c.in-Err-Failed.field-0-is)

pub returns-in-Err-Memory : goal.returns-in-Err-Memory
returns-in-Err-Memory g c hs after stands makes =
    let old = g.D.Disk.seen c.args.journal.now.disk in
    let new = g.D.Disk.seen c.append.new.self.disk in
    let gate = c.append.new.self.gate in
    let change : Change = record { kind = c.args.kind; bytes = c.args.bytes.now } in
    subst (λ noted. LeavesChange old new gate hs after noted (Err OutOfMemory)) (sym c.requires)
    (change-wanting old new c.args.journal.now.gate gate hs after change c.append.result c.append.ensures.adds c.append.ensures.later
    stands makes (c.in-Err-Memory.is ∙ ap Err c.in-Err-Memory.field-0-is))
