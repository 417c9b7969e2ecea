-- Places of ranges of one width.
use Rattle.std.proofs.Common.{◌≡◌, ℕ, zero, suc, ◌+◌, ◌-◌, ◌*◌, ◌/◌, ◌<◌, ◌≤◌, ◌==◌, nat_le, Bool, true, false, ◌&&◌, List, [], ◌∷◌, take, drop, refl, sym, ap, arith}
use Rattle.std.specs.List.{AllByRecursion}
use Rattle.std.proofs.Math.Nat.{suc-mul, le-div_iff_mul-le, div-lt_iff_lt-mul}
use Rattle.std.proofs.lemmas.Bool.{and_parts, and_from, leb-true, le-leb, eqb-true, eq-eqb}
use Rattle.std.proofs.lemmas.Nat.{le-div, div_below}
use Rattle.col_look.specs.Bars.{bar_start, bar_end}

-- tests that imply each other are one
same-test : (s t : Bool) → (s ≡ true → t ≡ true) → (t ≡ true → s ≡ true) → s ≡ t
same-test true t f g = sym (f refl)
same-test false true f g = g refl
same-test false false f g = refl

-- a distance lies in the range of a place exactly where its quotient is the place
pub in-range : (distance width place e : ℕ) → 0 < width → e ≤ distance
    → (nat_le (bar_start width place) e && nat_le e (bar_end distance width place)) ≡ (e / width == place)
in-range distance width place e wide within =
    same-test (nat_le (bar_start width place) e && nat_le e (bar_end distance width place)) (e / width == place) there back
  where
    next : suc place * width ≡ place * width + width
    next = suc-mul place width

    there : (nat_le (bar_start width place) e && nat_le e (bar_end distance width place)) ≡ true → (e / width == place) ≡ true
    there h =
        let parts = and_parts (nat_le (bar_start width place) e) (nat_le e (bar_end distance width place)) h in
        let low = leb-true (place * width) e parts.0 in
        let high = leb-true e (bar_end distance width place) parts.1 in
        let least = le-div place e width wide low in
        let most = div_below e width (suc place) wide (omega (arith, high, next, wide)) in
        eq-eqb (e / width) place (omega (arith, least, most))

    back : (e / width == place) ≡ true → (nat_le (bar_start width place) e && nat_le e (bar_end distance width place)) ≡ true
    back h =
        let is = eqb-true (e / width) place h in
        let low : place * width ≤ e = (le-div_iff_mul-le wide).0 (omega (arith, is)) in
        let high : e < suc place * width = (div-lt_iff_lt-mul wide).0 (omega (arith, is)) in
        and_from (nat_le (bar_start width place) e) (nat_le e (bar_end distance width place))
        (le-leb (place * width) e low) (le-leb e (bar_end distance width place) (omega (arith, high, next, wide, within)))

-- a lesser distance has no later place
pub quotients-rise : (e d w : ℕ) → 0 < w → e ≤ d → e / w < suc (d / w)
quotients-rise e d w wide le =
    let most : d < suc (d / w) * w = (div-lt_iff_lt-mul wide).0 (omega arith) in
    div_below e w (suc (d / w)) wide (omega (arith, most, le))

-- ---- blocks

-- what all values keep, those of a block keep
pub all-block : {T : Type 0} (P : T → Type 0) (at len : ℕ) (xs : List T) → AllByRecursion P xs → AllByRecursion P (take len (drop at xs))
all-block P zero zero xs all = tt
all-block P zero (suc len) [] all = tt
all-block P zero (suc len) (x ∷ xs) all = (all.0, all-block P zero len xs all.1)
all-block P (suc at) zero [] all = tt
all-block P (suc at) (suc len) [] all = tt
all-block P (suc at) len (x ∷ xs) all = all-block P at len xs all.1

-- so many items from a place on are those up to the place behind them
pub block-from : {T : Type 0} (at len : ℕ) (xs : List T) → take len (drop at xs) ≡ take (at + len - at) (drop at xs)
block-from at len xs = let width : len ≡ at + len - at = omega arith in ap (λ n. take n (drop at xs)) width
