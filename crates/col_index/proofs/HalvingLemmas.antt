-- How often what is left can be halved.
use Rattle.std.proofs.Common.{◌≡◌, ℕ, ◌+◌, ◌*◌, ◌^◌, ◌<◌, ◌≤◌, arith, add-one, pow-suc}
use Rattle.std.proofs.Math.Nat.{mul_assoc, mul-le-mul_left}

-- what is left after so many halves
pub record IsHalved (times whole left : ℕ) : Type 0 where
  pub part : 2 ^ times * left ≤ whole
  pub few : 2 ^ times ≤ 2 * whole + 1
  pub least : whole + 2 ≤ 2 ^ times * (left + 2)

-- once more, where something is left, and at most half of it after that
pub halved-more : (times next whole left less : ℕ) → next ≡ times + 1 → 0 < left → 2 * less ≤ left → left ≤ 2 * less + 2
    → IsHalved times whole left → IsHalved next whole less
halved-more times next whole left less is some half rest h =
    let doubled : 2 ^ next ≡ 2 ^ times * 2 = rw (is, add-one) (pow-suc 2 times) in
    let part = h.part in
    let more : left + 2 ≤ 2 * (less + 2) = omega (arith, rest) in
    let halves = mul-le-mul_left (2 ^ times) half in
    record {
      part = rw doubled (omega (arith, mul_assoc (2 ^ times) 2 less, halves));
      few = rw doubled (omega (arith, mul-le-mul_left {m = 1} (2 ^ times) some));
      least = rw doubled (omega (arith, mul_assoc (2 ^ times) 2 (less + 2), h.least, mul-le-mul_left (2 ^ times) more));
    }

-- where nothing is left, at least so many halves were taken
pub halved-least : (times whole left : ℕ) → left ≡ 0 → IsHalved times whole left → whole + 2 ≤ 2 * 2 ^ times
halved-least times whole left none h =
    let two : left + 2 ≤ 2 = omega (arith, none) in
    omega (arith, h.least, mul-le-mul_left (2 ^ times) two)
