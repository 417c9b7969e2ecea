use Rattle.std.proofs.Common.{◌+◌, ◌-◌, ◌%◌, ◌^◌, ap, ◌∙◌}
use Rattle.col_codecs.proofs.OnLineLemmas.{steep-lifted}
use Rattle.col_codecs.proofs.on_line.lifted.Goals as goal

pub returns : goal.returns
returns c =
    c.eval.ensures
    ∙ steep-lifted c.args.intercept c.args.half _ (ap (λ d. (c.args.half + 2 ^ 32 - d) % 2 ^ 32) c.shift_of.ensures)
