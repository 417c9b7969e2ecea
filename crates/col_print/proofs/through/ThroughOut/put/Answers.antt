use Rattle.std.proofs.Common.{sym, ◌∙◌}
use Rattle.col_print.proofs.PutsLemmas.{puts_stopped, puts_held, extended}
use Rattle.col_print.proofs.through.ThroughOut.put.Goals as goal

pub returns-then-is_err : goal.returns-then-is_err
returns-then-is_err g c = puts_stopped _ _ _ _ c.args.bytes.now (sym c.is_err.ensures.value ∙ c.if-is_err.true)

pub returns : goal.returns
returns g c =
    puts_held _ _ _ _ _ c.args.bytes.now (sym c.is_err.ensures.value ∙ c.if-is_err.false)
    (extended _ _ c.args.self.now.buffer.now.items c.args.bytes.now (sym c.is_err-2.ensures.value ∙ c.if-is_err-2.false)
    c.extend_from_slice.ensures.items)
