use Rattle.std.proofs.Common.{◌++◌, sym, ap, ◌∙◌, subst}
use Rattle.std.proofs.lemmas.Result.{err_from_is_err_and}
use Rattle.col_load.specs.Loading.{LinesTaken}
use Rattle.col_load.proofs.BlockLemmas.{all_begun, open_both, block_stops, block_stops_behind, block_taken}
use Rattle.col_load.proofs.lines.take_block.Goals as goal

pub returns-in_default-clause-taken : goal.returns-in_default-clause-taken
returns-in_default-clause-taken c =
    let all = c.args.held.now.items ++ c.args.block.now in
    subst (λ bs. LinesTaken all bs c.args.loader.now c.args.loader.now) (sym c.in_ok-extend_from_slice.ensures.items)
    (all_begun all c.args.loader.now (open_both c.args.held.now.items c.args.block.now c.requires c.in_default.ensures))

pub returns-in_err-take_begun-clause-stopped : goal.returns-in_err-take_begun-clause-stopped
returns-in_err-take_begun-clause-stopped c =
    let p = err_from_is_err_and c.from_residual-in_err-take_begun.result c.from_residual-in_err-take_begun.ensures.1 in
    rw (p.1, p.2) (block_stops c.args.held.now.items c.args.block.now c.in-Some.ending.now c.in-Some.behind.now c.requires c.in-Some.ensures
    c.args.loader.now c.take_begun.new.loader c.in_err-take_begun.field-0.0 c.in_err-take_begun.ensures.line)

pub returns-in_err-begun-clause-stopped : goal.returns-in_err-begun-clause-stopped
returns-in_err-begun-clause-stopped c =
    let p = err_from_is_err_and c.from_residual-in_err-begun.result c.from_residual-in_err-begun.ensures.1 in
    rw (p.1, p.2) (block_stops_behind c.args.held.now.items c.args.block.now c.in-Some.ending.now c.in-Some.behind.now c.requires
    c.in-Some.ensures c.args.loader.now c.take_begun.new.loader c.in_err-begun.field-0.0 c.in_ok-take_begun.ensures.line
    c.in_err-begun.ensures.stopped)

pub returns-clause-taken : goal.returns-clause-taken
returns-clause-taken c =
    let left = c.in_ok-extend_from_slice-2.ensures.items ∙ ap (λ bs. bs ++ c.in_ok-begun.begun.now) c.in_ok-take_begun.ensures.cleared in
    subst (λ bs. LinesTaken (c.args.held.now.items ++ c.args.block.now) bs c.args.loader.now c.take_whole_lines.new.loader) (sym left)
    (block_taken c.args.held.now.items c.args.block.now c.in-Some.ending.now c.in-Some.behind.now c.requires c.in-Some.ensures
    c.args.loader.now c.take_begun.new.loader c.in_ok-begun.begun.now c.take_whole_lines.new.loader c.in_ok-take_begun.ensures.line
    c.in_ok-begun.ensures.taken)
