use Rattle.std.proofs.Common.{sym, ◌∙◌, refl}
use Rattle.serde_json.specs.Data.{string}
use Rattle.col_questions.proofs.AddressLemmas.{bad_address}
use Rattle.col_questions.proofs.parts.ip_addr_spelled.Goals as goal

pub returns-in-Err : goal.returns-in-Err
returns-in-Err c =
    bad_address (string c.args.digits.now) c.args.digits.now c.in-Err.field-0 refl (sym c.from_hex.ensures ∙ c.in-Err.is)
