use Rattle.std.proofs.Common.{ap}
use Rattle.json.specs.Print.{quoted}
use Rattle.col_print.proofs.PutsLemmas.{puts_then, puts_as}
use Rattle.col_print.proofs.quoted.put_quoted.Goals as goal

pub returns : goal.returns
returns g c =
    puts_as _ _ _ _ (ap quoted c.as_bytes.ensures.value)
    (puts_then _ _ _ _ _ c.put.ensures (puts_then _ _ _ _ _ c.put_escaped.ensures c.put-2.ensures))
