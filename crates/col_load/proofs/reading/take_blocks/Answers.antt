use Rattle.std.proofs.Common.{take, sym, subst, arith}
use Rattle.std.proofs.lemmas.List.{length-take-le}
use Rattle.std.proofs.lemmas.Result.{err_from_is_err_and}
use Rattle.col_load.proofs.ReadLemmas.{AreRead, none_read, less_left, block_more, read_refused, block_ends}
use Rattle.col_load.proofs.reading.take_blocks.Goals as goal

pub reads-init : goal.reads-init
reads-init g c =
    let left = g.S.Source.left c.args.source.now in
    let faults = g.S.Source.faults c.args.source.now in
    subst (AreRead left left faults faults c.args.loader.now c.args.loader.now) (sym c.new-held.ensures.items)
    (none_read left faults c.args.loader.now c.requires.none)

pub returns-in_err-count : goal.returns-in_err-count
returns-in_err-count g c =
    let p = err_from_is_err_and c.from_residual.result c.from_residual.ensures.1 in
    rw (p.1, p.2) (read_refused _ _ _ _ _ _ _ c.reads.invariant _ _ c.in_err-count.ensures.later _ c.in_err-count.ensures.failed)

pub reads-smaller : goal.reads-smaller
reads-smaller g c =
    let long = length-take-le c.in_ok-count.count c.read_block.new.buffer c.in_ok-count.ensures.within in
    less_left c.reads.held.items (take c.in_ok-count.count c.read_block.new.buffer) c.take_block.new.held.items c.reads.loader
    c.take_block.new.loader c.in_ok-take_block.ensures.taken (omega (arith, long, c.if-count-eq0.false)) c.reads.invariant.fits
    (omega (arith, c.reads.held.ok.0))

pub reads-preserved : goal.reads-preserved
reads-preserved g c =
    block_more _ _ _ _ _ _ _ c.reads.invariant _ _ c.in_ok-count.ensures.later (take c.in_ok-count.count c.read_block.new.buffer) _ _
    c.in_ok-count.ensures.taken c.in_ok-take_block.ensures.taken

pub returns-in_err-take_block : goal.returns-in_err-take_block
returns-in_err-take_block g c =
    let p = err_from_is_err_and c.from_residual-in_err-take_block.result c.from_residual-in_err-take_block.ensures.1 in
    rw (p.1, p.2) (block_ends _ _ _ _ _ _ _ c.reads.invariant _ _ c.in_ok-count.ensures.later
    (take c.in_ok-count.count c.read_block.new.buffer) _ _ c.in_ok-count.ensures.taken c.in_err-take_block.ensures.stopped)
