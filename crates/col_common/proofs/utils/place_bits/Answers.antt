use Rattle.std.proofs.Common.{◌≡◌, ◌+◌, ◌-◌, ◌*◌, ◌^◌, ◌<◌, ◌≤◌, ap, arith, lit<}
use Rattle.std.proofs.lemmas.Nat.{shl_below}
use native.Mathlib.Nat.{pow-le-pow_right}
use Rattle.col_common.proofs.utils.place_bits.Goals as goal

pub overflow_cast-result-2 : goal.overflow_cast-result-2
overflow_cast-result-2 g c =
    let low = g.row.START in
    let high = g.row.END in
    let placed : c.args.code * 2 ^ low < 2 ^ (high - low + low) = shl_below c.args.code (high - low) low c.requires.small in
    let within : 2 ^ (high - low + low) ≤ 2 ^ 8 = pow-le-pow_right {n = 2} (lit< tt) {i = high - low + low} {j = 8} (omega arith) in
    let same : c.from.result * 2 ^ low ≡ c.args.code * 2 ^ low = ap (λ n. n * 2 ^ low) c.from.ensures in
    omega (arith, placed, within, same)
