use Rattle.std.proofs.Common.{sym, ap, ◌∙◌}
use Rattle.col_documents.specs.Numbers.{is_whole}
use Rattle.col_documents.proofs.NumberLemmas.{whole_scaled}
use Rattle.col_documents.proofs.number.number_spelled.Goals as goal

pub typed_number-requires-2 : goal.typed_number-requires-2
typed_number-requires-2 c =
    ap is_whole (c.as_slice.ensures.value ∙ c.in_ok-digits.ensures)
    ∙ whole_scaled c.args.scale c.split_at_point.result.0.now c.split_at_point.result.1.now
    (sym c.is_whole.ensures ∙ c.if-not-is_whole.false) (sym c.are_digits.ensures ∙ c.if-not-are_digits.false)
