use Rattle.col_csv_fields.proofs.ValueLemmas.{unsigned-value}
use Rattle.col_csv_fields.proofs.number.unsigned_spelled.Goals as goal

pub returns : goal.returns
returns c = unsigned-value c.args.text.now c.number_spelled.result c.number_spelled.ensures
