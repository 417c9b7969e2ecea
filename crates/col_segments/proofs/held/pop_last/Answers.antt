use Rattle.std.proofs.Common.{arith}
use Rattle.col_segments.proofs.OpenLemmas.{open-popped}
use Rattle.col_segments.proofs.held.pop_last.Goals as goal

pub returns-then-num_alive-gt0-clause-open_ : goal.returns-then-num_alive-gt0-clause-open_
returns-then-num_alive-gt0-clause-open_ c =
    open-popped c.pop.new.self.items c.args.held.now.items c.in-Some.segment c.args.readers.now.items c.in-Some.ensures.items c.requires
    c.pop-then-num_alive-gt0.new.self.items _ (omega (arith, c.args.readers.now.ok))
    (omega (arith, c.num_alive.ensures, c.if-num_alive-gt0.true))
    c.pop-then-num_alive-gt0.ensures.rest
