use Rattle.std.proofs.Common.{ap, sym, ◌∙◌}
use Rattle.col_index.specs.Opening.{first_byte_cardinality}
use Rattle.col_index.proofs.ShapeLemmas.{shape-uncoded}
use Rattle.col_index.proofs.open.open_column_index.Goals as goal

pub returns-in_default-clause-answer : goal.returns-in_default-clause-answer
returns-in_default-clause-answer c =
    shape-uncoded c.args.bytes c.args.format_version
    (ap first_byte_cardinality (sym c.as_slice.ensures) ∙ c.in_default.ensures.none)
