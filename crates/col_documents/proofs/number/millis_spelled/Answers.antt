use Rattle.std.proofs.Common.{refl, sym, ◌∙◌}
use Rattle.col_documents.proofs.NumberLemmas.{far_of_time}
use Rattle.col_documents.proofs.number.millis_spelled.Goals as goal

pub returns-in_default : goal.returns-in_default
returns-in_default c =
    far_of_time c.args.text.now c.parse_i64.result (sym c.is_whole.ensures ∙ c.if-not-is_whole.false)
    c.parse_i64.ensures (rw c.in_default.is refl)
