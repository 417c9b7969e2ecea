use Rattle.std.proofs.Common.{subst}
use Rattle.std.proofs.lemmas.Result.{err_from_is_err_and}
use Rattle.col_load.specs.Loading.{TakesLine}
use Rattle.col_load.proofs.ReadLemmas.{nothing_read, reading_stops, last_line}
use Rattle.col_load.proofs.reading.take_source.Goals as goal

pub returns-in_err-buffer : goal.returns-in_err-buffer
returns-in_err-buffer g c =
    let p = err_from_is_err_and c.from_residual.result c.from_residual.ensures.1 in
    rw (p.1, p.2) (nothing_read (g.S.Source.left c.args.source.now) (g.S.Source.faults c.args.source.now) c.args.loader.now)

pub returns-in_err-last : goal.returns-in_err-last
returns-in_err-last g c =
    let p = err_from_is_err_and c.from_residual-in_err-last.result c.from_residual-in_err-last.ensures.1 in
    rw (p.1, p.2) (reading_stops _ _ _ _ c.args.loader.now c.take_blocks.new.loader c.requires _ _ c.in_err-last.ensures)

pub returns : goal.returns
returns g c =
    last_line _ _ _ _ c.args.loader.now c.take_blocks.new.loader c.requires c.in_ok-last.last c.in_ok-last.ensures c.take_line.new.self
    c.take_line.result (subst (λ bs. TakesLine bs c.take_blocks.new.loader c.take_line.new.self c.take_line.result)
    c.as_slice.ensures.value c.take_line.ensures)
