use Rattle.col_common.proofs.VIntLemmas.{vint-vint_bytes, vint_bytes-vint}
use Rattle.col_model.proofs.laws.numbers_have_one_form.Goals as goal

pub returns : goal.returns
returns c = record { read_back = vint-vint_bytes; one_form = vint_bytes-vint }
