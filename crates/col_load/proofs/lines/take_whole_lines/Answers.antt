use Rattle.std.proofs.lemmas.Result.{err_from_is_err_and}
use Rattle.col_load.proofs.BlockLemmas.{line_more, line_ends}
use Rattle.col_load.proofs.lines.take_whole_lines.Goals as goal

pub returns-in_err-take_line-clause-stopped : goal.returns-in_err-take_line-clause-stopped
returns-in_err-take_line-clause-stopped c =
    let p = err_from_is_err_and c.from_residual.result c.from_residual.ensures.1 in
    rw (p.1, p.2) (line_ends c.args.bytes.now c.lines.left.now c.args.loader.now c.lines.loader c.lines.invariant c.in-Some.line.now
    c.in-Some.behind.now c.in-Some.ensures c.take_line.new.self c.in_err-take_line.field-0.0 c.in_err-take_line.ensures)

pub lines-preserved : goal.lines-preserved
lines-preserved c =
    line_more c.args.bytes.now c.lines.left.now c.args.loader.now c.lines.loader c.lines.invariant c.in-Some.line.now
    c.in-Some.behind.now c.in-Some.ensures c.take_line.new.self c.in_ok-take_line.ensures
