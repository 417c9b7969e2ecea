use Rattle.std.proofs.Common.{◌∙◌}
use Rattle.col_writer_file.proofs.PlainLemmas.{codes-of-rows, codes-told}
use Rattle.col_writer_file.proofs.plain.have_too_many_codes.Goals as goal

pub returns : goal.returns
returns c =
    codes-told c.need_too_many_codes.result _ _
    (codes-of-rows c.args.order.now c.docs.result.now c.deref.result.now c.args.column.now c.docs.ensures
    (c.deref.ensures.value ∙ c.in_ok-numbers.ensures ∙ c.values.ensures.values))
    c.need_too_many_codes.ensures
