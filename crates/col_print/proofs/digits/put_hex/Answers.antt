use Rattle.col_print.proofs.PutsLemmas.{puts_then}
use Rattle.col_print.proofs.digits.put_hex.Goals as goal

pub returns : goal.returns
returns g c = puts_then _ _ _ _ _ c.put.ensures (puts_then _ _ _ _ _ c.put_digits.ensures c.put-2.ensures)
