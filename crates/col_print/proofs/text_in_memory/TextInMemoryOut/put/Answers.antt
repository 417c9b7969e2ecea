use Rattle.std.proofs.Common.{sym, ◌∙◌, []}
use Rattle.col_common.specs.Outside.{in_memory}
use Rattle.col_print.proofs.PutsLemmas.{puts_stopped, puts_held, puts_refused, extended}
use Rattle.col_print.proofs.text_in_memory.TextInMemoryOut.put.Goals as goal

pub returns-then-is_err : goal.returns-then-is_err
returns-then-is_err c = puts_stopped _ (in_memory []) _ _ c.args.bytes.now (sym c.is_err.ensures.value ∙ c.if-is_err.true)

pub returns-then-is_err-2 : goal.returns-then-is_err-2
returns-then-is_err-2 c = puts_refused _ (in_memory []) _ _ _ c.args.bytes.now (sym c.is_err.ensures.value ∙ c.if-is_err.false)

pub returns-else-is_err-2 : goal.returns-else-is_err-2
returns-else-is_err-2 c =
    puts_held _ (in_memory []) _ _ _ c.args.bytes.now (sym c.is_err.ensures.value ∙ c.if-is_err.false)
    (extended _ _ c.args.self.now.bytes.items c.args.bytes.now (sym c.is_err-2.ensures.value ∙ c.if-is_err-2.false)
    c.extend_from_slice.ensures.items)
