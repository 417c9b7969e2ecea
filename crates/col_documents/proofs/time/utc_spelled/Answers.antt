use Rattle.std.proofs.Common.{sym, subst, ◌∙◌}
use Rattle.col_documents.specs.Values.{GivesReason, Taken}
use Rattle.col_questions.specs.Values.{typed_cell}
use Rattle.col_documents.proofs.TimeLemmas.{civil_read}
use Rattle.col_documents.proofs.time.utc_spelled.Goals as goal

pub returns-in-Ok : goal.returns-in-Ok
returns-in-Ok c =
    subst (λ (t : Taken). GivesReason typed_cell c.time_in_utc.result t)
    (civil_read c.args.text.now c.in-Ok.datetime (sym c.names_zone.ensures ∙ c.if-names_zone.false) c.in-Ok.ensures.value)
    c.time_in_utc.ensures
