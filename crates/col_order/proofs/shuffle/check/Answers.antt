use Rattle.std.proofs.Common.{arith, sym, ◌∙◌}
use Rattle.col_order.proofs.RefusalLemmas.{refused-row, refused-many, refused-none}
use Rattle.col_order.proofs.shuffle.check.Goals as goal

pub returns-then-not-are_there : goal.returns-then-not-are_there
returns-then-not-are_there c =
    sym
    (refused-row c.args.segment_num_rows.now c.args.addrs.now (sym c.are_there.ensures ∙ c.if-not-are_there.true))

pub returns-then-addrs : goal.returns-then-addrs
returns-then-addrs c =
    sym (refused-many c.args.segment_num_rows.now c.args.addrs.now
    (sym c.are_there.ensures ∙ c.if-not-are_there.false) (omega arith))

pub returns : goal.returns
returns c =
    sym (refused-none c.args.segment_num_rows.now c.args.addrs.now
    (sym c.are_there.ensures ∙ c.if-not-are_there.false) (omega arith))
