use Rattle.std.proofs.Common.{◌∙◌, length, sym, ap}
use Rattle.col_common.specs.Reading.{only_if}
use Rattle.col_model.specs.Table.{text}
use Rattle.col_csv_fields.proofs.DigitLemmas.{bytes-read}
use Rattle.col_csv_fields.proofs.digits.decode_into.Goals as goal

pub returns : goal.returns
returns c =
    bytes-read c.args.text.now c.decode_to_slice.new.out (length c.args.out.now) c.decode_to_slice.result c.requires.lower c.requires.room
    c.decode_to_slice.ensures.value
    ∙ ap (λ found. only_if found (text c.decode_to_slice.new.out)) (sym c.is_ok.ensures.value)
