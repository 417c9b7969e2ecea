use Rattle.std.proofs.Common.{◌≡◌, None, Err, IfSome, sym, ap, subst, rules}
use Rattle.std.proofs.lemmas.Result.{err_from_is_err_and}
use Rattle.col_common.specs.declared.error.ColumnarError.TheVariants.{InvalidData}
use Rattle.col_journal.specs.Found.{FindsChange, change_of}
use Rattle.col_journal.specs.Journal.{replayed}
use Rattle.col_set.specs.Held.{step}
use Rattle.col_set.proofs.HeldLemmas.{read-refused, replays-more, replays-none}
use Rattle.col_set.proofs.OpenLemmas.{read-refuses}
use Rattle.col_set.proofs.loading.replay.Goals as goal

pub loop-found-init : goal.loop-found-init
loop-found-init g c = replays-none (g.D.Disk.seen c.args.disk.now) c.args.segments.now c.requires.inside

pub loop-found-preserved-in_ok-apply_read : goal.loop-found-preserved-in_ok-apply_read
loop-found-preserved-in_ok-apply_read g c =
    let see = g.D.Disk.seen in
    replays-more (see c.args.disk.now) (see c.loop-found.disk) (see c.next_change.new.disk) c.loop-found.gate c.in-Some.next
    c.args.segments.now c.loop-found.segments c.apply_read.new.segments c.in-Some.found c.in_ok-found.field-0 c.loop-found.invariant
    c.in_ok-found.ensures.ok c.in_ok-found.ensures.within c.next_change.ensures.reads.stays c.next_change.ensures.reads.later
    c.in-Some.is c.in_ok-apply_read.ensures.ok

pub loop-found-preserved : goal.loop-found-preserved
loop-found-preserved g c =
    let see = g.D.Disk.seen in
    replays-more (see c.args.disk.now) (see c.loop-found.disk) (see c.next_change.new.disk) c.loop-found.gate c.in-Some.next
    c.args.segments.now c.loop-found.segments c.apply_read.new.segments c.in-Some.found c.in_ok-found.field-0 c.loop-found.invariant
    c.in_ok-found.ensures.ok c.in_ok-found.ensures.within c.next_change.ensures.reads.stays c.next_change.ensures.reads.later
    c.in-Some.is c.in_ok-apply_read.ensures.ok

pub returns-clause-ok : goal.returns-clause-ok
returns-clause-ok g c all r =
    let so_far = c.loop-found.invariant.read all r in
    let disk = g.D.Disk.seen c.next_change.new.disk in
    let last = subst (FindsChange disk c.loop-found.gate so_far.0 all) c.in_default.is (c.in_ok-found.ensures.ok so_far.0 all so_far.1) in
    (so_far.0, last.0, last.1, so_far.2)

pub returns-in_err-found-clause-invalid_data : goal.returns-in_err-found-clause-invalid_data
returns-in_err-found-clause-invalid_data g c all r e =
    let so_far = c.loop-found.invariant.read all r in
    let is : c.next_change.result ≡ Err InvalidData = search rules in
    let none = c.next_change.ensures.invalid_data so_far.0 all so_far.1 is in
    subst (λ a. IfSome a (λ changes. replayed step c.args.segments.now changes ≡ None)) (sym none) tt

pub returns-in_err-apply_read-clause-invalid_data : goal.returns-in_err-apply_read-clause-invalid_data
returns-in_err-apply_read-clause-invalid_data g c all r e =
    let so_far = c.loop-found.invariant.read all r in
    let disk = g.D.Disk.seen c.next_change.new.disk in
    let next = subst (FindsChange disk c.loop-found.gate so_far.0 all) c.in-Some.is (c.in_ok-found.ensures.ok so_far.0 all so_far.1) in
    let is : c.apply_read.result ≡ Err InvalidData = search rules in
    read-refused disk _ all _ _ so_far.0 (change_of c.in-Some.found) next so_far.2 (rw is at c.apply_read.ensures.refused)

pub returns-in_err-found-clause-answer : goal.returns-in_err-found-clause-answer
returns-in_err-found-clause-answer g c =
    let p = err_from_is_err_and c.from_residual.result c.from_residual.ensures.1 in
    let e = c.in_err-found.field-0.0 in
    rw (p.1, p.2) (read-refuses _ _ _ e c.loop-found.invariant.later c.in_err-found.ensures.reads.known
    (λ is. c.in_err-found.ensures.reads.read_fault (ap Err is)))
