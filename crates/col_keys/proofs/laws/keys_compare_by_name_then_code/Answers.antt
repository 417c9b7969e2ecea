use Rattle.col_keys.proofs.KeyLemmas.{is_before-keys}
use Rattle.col_keys.proofs.laws.keys_compare_by_name_then_code.Goals as goal

pub returns : goal.returns
returns c = is_before-keys
