use Rattle.std.proofs.Common.{sym, ◌∙◌, ◌++◌, [], ap}
use Rattle.col_print.proofs.PutsLemmas.{puts_stopped, puts_written}
use Rattle.col_print.proofs.through.Through.flush.Goals as goal

pub returns-then-is_err-clause-puts : goal.returns-then-is_err-clause-puts
returns-then-is_err-clause-puts g c = puts_stopped _ _ _ _ [] (sym c.is_err.ensures.value ∙ c.if-is_err.true)

pub returns-clause-puts : goal.returns-clause-puts
returns-clause-puts g c =
    puts_written _ _ _ _ c.deref.result.now _ [] _ c.write_all-self.result (sym c.is_err.ensures.value ∙ c.if-is_err.false)
    (ap (λ s. s ++ []) (sym c.deref.ensures.value) ∙ ap (λ s. c.deref.result.now ++ s) (sym c.clear.ensures.items))
    c.write_all-self.ensures.appended c.write_all-self.ensures.cause
