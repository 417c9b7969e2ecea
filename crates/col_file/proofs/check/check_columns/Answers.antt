use Rattle.col_file.proofs.CheckLemmas.{checks-none, checks-more}
use Rattle.col_file.proofs.check.check_columns.Goals as goal

pub loop-place-init : goal.loop-place-init
loop-place-init g c = checks-none c.args.reader.now c.in_ok-whole.whole.items c.in_ok-whole.ensures.items

pub loop-place-preserved : goal.loop-place-preserved
loop-place-preserved g c =
    checks-more c.args.reader.now c.loop-place.reader c.opens.new.reader c.loop-place.place
    c.loop-place.whole.items c.loop-place.invariant c.in_ok-opened.ensures.kept c.handle_at-handle.result
    c.in_ok-opened.opened c.push.new.self.items c.in_ok-push.ensures.items c.handle_at-handle.ensures c.in_ok-opened.ensures.ok
