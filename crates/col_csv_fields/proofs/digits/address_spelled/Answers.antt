use Rattle.std.proofs.Common.{◌∙◌, sym}
use Rattle.col_csv_fields.proofs.AddressLemmas.{no-lower-address, no-sized-address, address-read}
use Rattle.col_csv_fields.proofs.digits.address_spelled.Goals as goal

pub returns-then-not-are_lower_digits : goal.returns-then-not-are_lower_digits
returns-then-not-are_lower_digits c =
    no-lower-address c.args.text.now (sym c.are_lower_digits.ensures ∙ c.if-not-are_lower_digits.true)

pub returns-in-Ok : goal.returns-in-Ok
returns-in-Ok c =
    address-read c.args.text.now c.in-Ok.octets c.from.result (sym c.are_lower_digits.ensures ∙ c.if-not-are_lower_digits.false)
    (sym c.from_hex.ensures ∙ c.in-Ok.is) c.from.ensures

pub returns-in-Err : goal.returns-in-Err
returns-in-Err c = no-sized-address c.args.text.now c.in-Err.field-0 (sym c.from_hex.ensures ∙ c.in-Err.is)
