-- What holds after Ok, and equal refusals.
use Rattle.std.proofs.Common.{Result, Ok, Err, ◌≡◌}
use Rattle.std.specs.Prelude.{OnOk}
use Rattle.col_common.specs.declared.error.ColumnarError.{ColumnarError}

-- what holds anyway holds after Ok
pub on_ok-always : {P : Type 0} (result : Result (Unit {0}) ColumnarError) → P → OnOk result P
on_ok-always (Ok done) p = p
on_ok-always (Err e) p = tt

-- and what follows from what does
pub on_ok-map : {P Q : Type 0} (result : Result (Unit {0}) ColumnarError) → (P → Q) → OnOk result P → OnOk result Q
on_ok-map (Ok done) f h = f h
on_ok-map (Err e) f h = tt

-- refusals that are the same have the same cause
pub same-error : {A E : Type 0} (d e : E) → ◌≡◌ {A = Result A E} (Err d) (Err e) → d ≡ e
same-error d e h = cc
