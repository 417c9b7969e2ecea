-- A number written above the bits that are held.
use Rattle.std.proofs.Common.{◌≡◌, ℕ, ◌+◌, ◌-◌, ◌*◌, ◌/◌, ◌%◌, ◌^◌, ◌<◌, ◌≤◌, List, ◌++◌, length, take, sym, ◌∙◌, ap, arith, bit_or, length-append, subst, mod-eq_of_lt, lit<, lt_of_lt_of_le}
use Rattle.std.proofs.lemmas.Nat.{shl-shr, shr_split, pow-add, or_comm, or_lt, or_shifted, mod-pow-add, mod_low, from_le_bytes-to_le_bytes_8, shr_below, mul-add-lt, mod_below, pow_pos, pow_below}
use native.Mathlib.Nat.{pow-le-pow_right}
use Rattle.std.specs.Int.{to_le_bytes, w64, div_ceil}
use Rattle.col_common.specs.Ascending.{AreBelow}
use Rattle.col_bits.specs.Packed.{number_of}
use Rattle.col_bits.proofs.PackedLemmas.{number_of-append, pow-pow}
use Rattle.col_bits.proofs.WindowLemmas.{number_of-take}

-- a shift to the left by f keeps the low 64 - f bits
shifted : (f v : ℕ) → f < 64 → v * 2 ^ f % 2 ^ 64 ≡ v % 2 ^ (64 - f) * 2 ^ f
shifted f v below =
    let g : ℕ = 64 - f in
    let all : 64 ≡ g + f = omega arith in
    let low : (v * 2 ^ f + 0) % 2 ^ f ≡ 0 = mod_low v f 0 (pow_pos f) in
    let none : v * 2 ^ f % 2 ^ f ≡ 0 = ap (λ n. n % 2 ^ f) (omega arith) ∙ low in
    let part : v * 2 ^ f / 2 ^ f % 2 ^ g * 2 ^ f ≡ v % 2 ^ g * 2 ^ f = ap (λ n. n % 2 ^ g * 2 ^ f) (shl-shr v f) in
    let cut : v * 2 ^ f % 2 ^ (g + f) ≡ v * 2 ^ f / 2 ^ f % 2 ^ g * 2 ^ f + v * 2 ^ f % 2 ^ f = mod-pow-add (v * 2 ^ f) g f in
    ap (λ n. v * 2 ^ f % 2 ^ n) all ∙ omega (arith, cut, part, none)

joined : (held f v : ℕ) → held < 2 ^ f → f < 64 → bit_or held (v * 2 ^ f % 2 ^ 64) ≡ held + v % 2 ^ (64 - f) * 2 ^ f
joined held f v h below =
    let low : ℕ = v % 2 ^ (64 - f) in
    let sum : bit_or (low * 2 ^ f) held ≡ low * 2 ^ f + held = or_shifted low f held h in
    ap (bit_or held) (shifted f v below) ∙ (or_comm held (low * 2 ^ f) ∙ (sum ∙ omega arith))

-- the low bits of a value complete a word, and the others are left
word_and_rest : (held f v : ℕ) → held < 2 ^ f → f < 64 → bit_or held (v * 2 ^ f % 2 ^ 64) + v / 2 ^ (64 - f) * 2 ^ 64 ≡ held + v * 2 ^ f
word_and_rest held f v h below =
    let g : ℕ = 64 - f in
    let all : g + f ≡ 64 = omega arith in
    let power : 2 ^ 64 ≡ 2 ^ g * 2 ^ f = ap (λ n. 2 ^ n) (sym all) ∙ pow-add 2 g f in
    let high : v / 2 ^ g * 2 ^ 64 ≡ v / 2 ^ g * (2 ^ g * 2 ^ f) = ap (λ n. v / 2 ^ g * n) power in
    let split : (v / 2 ^ g * 2 ^ g + v % 2 ^ g) * 2 ^ f ≡ v * 2 ^ f = ap (λ n. n * 2 ^ f) (shr_split v g) in
    omega (arith, joined held f v h below, high, split)

-- bytes behind bytes
pub bytes-append : (xs ys : List ℕ) → number_of 256 (xs ++ ys) ≡ number_of 256 xs + number_of 256 ys * 2 ^ (8 * length xs)
bytes-append xs ys =
    let power : 256 ^ length xs ≡ 2 ^ (8 * length xs) = pow-pow 8 (length xs) ∙ ap (λ n. 2 ^ n) (omega arith) in
    number_of-append 256 xs ys ∙ ap (λ n. number_of 256 xs + number_of 256 ys * n) power

number_word : (n : ℕ) → n < 2 ^ 64 → number_of 256 (to_le_bytes w64 n) ≡ n
number_word n h = omega (arith, from_le_bytes-to_le_bytes_8 n h)

-- a value that fits above what is held
fits : (held f v w : ℕ) → held < 2 ^ f → v < 2 ^ w → f + w < 64 → bit_or held (v * 2 ^ f % 2 ^ 64) ≡ held + v * 2 ^ f
fits held f v w h small room =
    let g : ℕ = 64 - f in
    let wide : 2 ^ w < 2 ^ g = pow_below w g (omega arith) in
    let low : (0 * 2 ^ g + v) % 2 ^ g ≡ v = mod_low 0 g v (omega arith) in
    let whole : v % 2 ^ g ≡ v = ap (λ n. n % 2 ^ g) (omega arith) ∙ low in
    joined held f v h (omega arith) ∙ ap (λ n. held + n * 2 ^ f) whole

-- a number of w bits written above f bits that are held takes f + w bits, where that is below 64
pub held_fits : (held f v w : ℕ) → held < 2 ^ f → v < 2 ^ w → f + w < 64 → bit_or held (v * 2 ^ f % 2 ^ 64) < 2 ^ (f + w)
held_fits held f v w h small room =
    let sum : v * 2 ^ f + held < 2 ^ f * 2 ^ w = mul-add-lt v (2 ^ f) held (2 ^ w) small h in
    omega (arith, fits held f v w h small room, sum, pow-add 2 f w)

-- the bits, where the value fits above what is held
pub bits_fit : (held f v w : ℕ) (out : List ℕ) → held < 2 ^ f → v < 2 ^ w → f + w < 64
    → number_of 256 out + bit_or held (v * 2 ^ f % 2 ^ 64) * 2 ^ (8 * length out)
    ≡ number_of 256 out + held * 2 ^ (8 * length out) + v * 2 ^ (8 * length out + f)
bits_fit held f v w out h small room =
    let p : ℕ = 2 ^ (8 * length out) in
    let new : bit_or held (v * 2 ^ f % 2 ^ 64) * p ≡ (held + v * 2 ^ f) * p = ap (λ n. n * p) (fits held f v w h small room) in
    let power : v * 2 ^ (8 * length out + f) ≡ v * (p * 2 ^ f) = ap (λ n. v * n) (pow-add 2 (8 * length out) f) in
    omega (arith, new, power)

-- the bits, where the value completes a word
pub bits_spill : (held f v : ℕ) (out : List ℕ) → held < 2 ^ f → f < 64
    → number_of 256 (out ++ to_le_bytes w64 (bit_or held (v * 2 ^ f % 2 ^ 64)))
    + v / 2 ^ (64 - f) * 2 ^ (8 * length (out ++ to_le_bytes w64 (bit_or held (v * 2 ^ f % 2 ^ 64))))
    ≡ number_of 256 out + held * 2 ^ (8 * length out) + v * 2 ^ (8 * length out + f)
bits_spill held f v out h below =
    let p : ℕ = 2 ^ (8 * length out) in
    let word : ℕ = bit_or held (v * 2 ^ f % 2 ^ 64) in
    let rest : ℕ = v / 2 ^ (64 - f) in
    let bytes : List ℕ = to_le_bytes w64 word in
    let wide : 2 ^ f < 2 ^ 64 = pow_below f 64 below in
    let small : word < 2 ^ 64 = or_lt 64 held (v * 2 ^ f % 2 ^ 64) (omega arith) (mod_below (v * 2 ^ f) (2 ^ 64) (omega arith)) in
    let written : number_of 256 (out ++ bytes) ≡ number_of 256 out + number_of 256 bytes * p = bytes-append out bytes in
    let read : number_of 256 bytes * p ≡ word * p = ap (λ n. n * p) (number_word word small) in
    let long : 8 * length (out ++ bytes) ≡ 8 * length out + 64 = omega (arith, length-append out bytes) in
    let above : rest * 2 ^ (8 * length (out ++ bytes)) ≡ rest * (p * 2 ^ 64) =
    ap (λ n. rest * n) (ap (λ n. 2 ^ n) long ∙ pow-add 2 (8 * length out) 64) in
    let joined_up : (word + rest * 2 ^ 64) * p ≡ (held + v * 2 ^ f) * p = ap (λ n. n * p) (word_and_rest held f v h below) in
    let power : v * 2 ^ (8 * length out + f) ≡ v * (p * 2 ^ f) = ap (λ n. v * n) (pow-add 2 (8 * length out) f) in
    omega (arith, written, read, above, joined_up, power)

-- what doesn't fit above the bits that are held takes the bits past 64
pub rest_fits : (f v w : ℕ) → v < 2 ^ w → f < 64 → 64 ≤ f + w → v / 2 ^ (64 - f) < 2 ^ (f + w - 64)
rest_fits f v w small below over =
    let e : w ≡ f + w - 64 + (64 - f) = omega arith in
    let q : ℕ → Type 0 = λ n. v < 2 ^ n in
    shr_below v (f + w - 64) (64 - f) (subst q e small)

-- a word's bytes are bytes
pub word_bytes : (n : ℕ) → AreBelow 256 (to_le_bytes w64 n)
word_bytes n = (omega arith, (omega arith, (omega arith, (omega arith, (omega arith, (omega arith, (omega arith, (omega arith, tt))))))))

-- the bytes of the bits that are held
pub bits_closed : (held f : ℕ) (out : List ℕ) → held < 2 ^ f → f < 64
    → number_of 256 (out ++ take (div_ceil f 8) (to_le_bytes w64 held))
    ≡ number_of 256 out + held * 2 ^ (8 * length out)
bits_closed held f out h below =
    let k : ℕ = div_ceil f 8 in
    let bytes : List ℕ = to_le_bytes w64 held in
    let wide : 2 ^ f < 2 ^ 64 = pow_below f 64 below in
    let small : held < 2 ^ 64 = omega arith in
    let room : 2 ^ f ≤ 256 ^ k = rw (pow-pow 8 k) (pow-le-pow_right {n = 2} (lit< tt) {i = f} {j = k * 8} (omega arith)) in
    let low : number_of 256 (take k bytes) ≡ held =
    number_of-take 256 bytes k (lit< tt) (word_bytes held)
    ∙ (ap (λ n. n % 256 ^ k) (number_word held small) ∙ mod-eq_of_lt (lt_of_lt_of_le h room)) in
    bytes-append out (take k bytes) ∙ ap (λ n. number_of 256 out + n * 2 ^ (8 * length out)) low
