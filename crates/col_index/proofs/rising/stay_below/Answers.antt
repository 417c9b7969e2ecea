use Rattle.std.proofs.Common.{nat_lt, ap, ◌∙◌}
use Rattle.col_numbers.specs.Readers.{list_of}
use Rattle.col_index.proofs.BoundLemmas.{greatest_from_some}
use Rattle.col_index.proofs.rising.stay_below.Goals as goal

pub returns-else-num_vals-eq0 : goal.returns-else-num_vals-eq0
returns-else-num_vals-eq0 c =
    ap (λ v. nat_lt v c.args.bound) c.max_value.ensures.value
    ∙ greatest_from_some c.args.bound (list_of c.args.numbers.now) (λ e. c.if-num_vals-eq0.false (c.num_vals.ensures ∙ e))
