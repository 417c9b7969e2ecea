-- What decoders make, by what is expected.
use Rattle.std.proofs.Common.{◌≡◌, Option, Some, Ok, sym, subst}
use Rattle.col_dynamic_open.specs.Contents.{DecodesTo}

-- what was made of the value that is expected
pub decodes-to : {T V : Type 0} (IsOf : V → T → Type 0) (made : T) (o : Option V) (value : V) → o ≡ Some value
    → IsOf value made → DecodesTo IsOf (Ok made) o
decodes-to {T = T} {V = V} IsOf made o value e h =
    let P : Option V → Type 0 = λ o. DecodesTo IsOf (Ok made) o in subst P (sym e) h
