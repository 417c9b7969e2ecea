use Rattle.std.proofs.Common.{Err, ap}
use Rattle.json.specs.Value.{value_view}
use Rattle.col_documents.proofs.ParsedLemmas.{is_parsed, none_parsed}
use Rattle.col_documents.proofs.document.parse_json.Goals as goal

pub returns-in-Ok : goal.returns-in-Ok
returns-in-Ok c = is_parsed c.args.line.now (value_view c.in-Ok.value) c.in-Ok.ensures.ok.0 c.in-Ok.ensures.ok.1

pub returns-in_default : goal.returns-in_default
returns-in_default c =
    none_parsed c.args.line.now c.in-Err.error (λ e. c.in-Err.ensures.invalid (ap Err e)) c.in_default.not-OutOfMemory
    (λ e. c.in-Err.ensures.never_too_long (ap Err e)) (λ e. c.in-Err.ensures.never_duplicate (ap Err e))
