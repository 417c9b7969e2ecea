use Rattle.std.proofs.Common.{sym, ◌∙◌}
use Rattle.col_numbers.specs.Readers.{list_of}
use Rattle.col_numbers.proofs.EqualLemmas.{stays-equal}
use Rattle.col_numbers.proofs.u64_values.U64Values.never_falls.Goals as goal

pub returns-then-min_value-max_value : goal.returns-then-min_value-max_value
returns-then-min_value-max_value c =
    sym (stays-equal (list_of c.args.self.now)
    (sym c.min_value.ensures.value ∙ c.if-min_value-max_value.true ∙ c.max_value.ensures.value))
