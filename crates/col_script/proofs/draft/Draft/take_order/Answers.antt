use Rattle.std.proofs.Common.{sym}
use Rattle.col_script.proofs.TakeLemmas.{takes-order, takes-second}
use Rattle.col_script.proofs.draft.Draft.take_order.Goals as goal

pub returns-then-is_some : goal.returns-then-is_some
returns-then-is_some c = takes-second c.args.self.now c.args.self.now c.args.order (sym c.if-is_some.ensures)

pub returns : goal.returns
returns c = takes-order c.args.self.now c.args.order (sym c.if-is_some.ensures)
