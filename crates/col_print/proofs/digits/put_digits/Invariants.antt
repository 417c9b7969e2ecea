use Rattle.std.proofs.Common.{take}
use Rattle.hex.specs.Hex.{encode_lower}
use Rattle.json.specs.Print.{escape}
use Rattle.col_print.specs.Puts.{Puts}
use Rattle.col_print.proofs.digits.put_digits.Given as goal

abbrev pub invariant-loop-byte : goal.invariant-loop-byte
invariant-loop-byte g l =
    Puts (g.O.Out.seen l.initial.out) (g.O.Out.seen l.out) (escape (encode_lower (take l.byte-index l.bytes)))
