use Rattle.std.proofs.Common.{arith, ap, refl}
use Rattle.std.proofs.lemmas.List.{take_all}
use Rattle.hex.specs.Hex.{encode_lower}
use Rattle.json.specs.Print.{escape}
use Rattle.col_print.proofs.EscapeLemmas.{digits-none, digits-next}
use Rattle.col_print.proofs.PutsLemmas.{puts_none, puts_then, puts_as}
use Rattle.col_print.proofs.digits.put_digits.Goals as goal

pub loop-byte-init : goal.loop-byte-init
loop-byte-init g c = puts_as _ _ _ _ digits-none (puts_none _)

pub loop-byte-preserved : goal.loop-byte-preserved
loop-byte-preserved g c =
    puts_as _ _ _ _ (digits-next c.args.bytes.now c.loop-byte.byte-index _ (omega arith) refl
    (omega (arith, c.type_inv.bytes c.loop-byte.byte-index)))
    (puts_then _ _ _ _ _ c.loop-byte.invariant c.put_pair.ensures)

pub returns : goal.returns
returns g c =
    puts_as _ _ _ _ (ap (λ bs. escape (encode_lower bs)) (take_all c.loop-byte.byte-index c.args.bytes.now (omega arith)))
    c.loop-byte.invariant
