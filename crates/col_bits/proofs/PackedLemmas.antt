-- Numbers and their digits in a base.
use Rattle.std.proofs.Common.{◌≡◌, ℕ, zero, suc, ◌+◌, ◌*◌, ◌/◌, ◌%◌, ◌^◌, ◌<◌, ◌≤◌, List, [], ◌∷◌, ◌++◌, length, Some, refl, sym, ◌∙◌, ap, arith, zero-add, pow-suc, mod-lt, mul_comm, lit<, mod-eq_of_lt, get_or, div-one, lt_of_lt_of_le, suc-mul, zero-mul}
use native.Mathlib.Nat.{mod-add-div, add-mul-mod_self_left, add-mul-div_left, div-eq_of_lt, pow-zero, div-div-eq-div-mul, pow-le-pow_right}
use Rattle.std.proofs.lemmas.Nat.{div_below, mul-add-lt, pow_pos, pow-add}
use Rattle.std.specs.Int.{div_ceil}
use Rattle.std.proofs.lemmas.Bool.{lt-ltb, eq-eqb}
use Rattle.col_common.specs.Ascending.{AreBelow}
use Rattle.col_bits.specs.Packed.{number_of, digits, packed, packed_bytes}

-- a low digit below a high number
pub mul-add-lt-digit : (d m base top : ℕ) → d < base → m < top → d + base * m < top * base
mul-add-lt-digit d m base top p q = omega (arith, mul-add-lt m base d top q p, mul_comm base m)

-- there are as many digits as are asked for
pub length-digits : (base k n : ℕ) → length (digits base k n) ≡ k
length-digits base zero n = refl
length-digits base (suc k) n = ap suc (length-digits base k (n / base))

-- so many digits below a base spell a number below its power
pub number_of-below : (base : ℕ) (ds : List ℕ) → 0 < base → AreBelow base ds → number_of base ds < base ^ length ds
number_of-below base [] p all = rw (pow-zero base) (lit< tt)
number_of-below base (d ∷ ds) p all =
    let later = number_of-below base ds p all.1 in
    let first = all.0 in
    rw (pow-suc base (length ds)) (mul-add-lt-digit d (number_of base ds) base (base ^ length ds) first later)

-- a number's digits are those that spelled it
pub digits-number_of : (base : ℕ) (ds : List ℕ) → 0 < base → AreBelow base ds → digits base (length ds) (number_of base ds) ≡ ds
digits-number_of base [] p all = refl
digits-number_of base (d ∷ ds) p all =
    let low : (d + base * number_of base ds) % base ≡ d = add-mul-mod_self_left d base (number_of base ds) ∙ mod-eq_of_lt all.0 in
    let high : (d + base * number_of base ds) / base ≡ number_of base ds =
    add-mul-div_left d (number_of base ds) p ∙ ap (λ q. q + number_of base ds) (div-eq_of_lt all.0)
    ∙ zero-add _ in
    rw (low, high) (ap (λ r. d ∷ r) (digits-number_of base ds p all.1))

-- a number below a base's power is spelled by as many of its digits
pub number_of-digits : (base k n : ℕ) → 0 < base → n < base ^ k → number_of base (digits base k n) ≡ n
number_of-digits base zero n p h = let h' : n < 1 = rw (pow-zero base) at h in omega arith
number_of-digits base (suc k) n p h =
    ap (λ m. n % base + base * m)
    (number_of-digits base k (n / base) p (div_below n base (base ^ k) p (rw (pow-suc base k) at h)))
    ∙ mod-add-div n base

-- the i-th digit
pub digits-at : (base k n i : ℕ) → 0 < base → i < k → get_or (digits base k n) i 0 ≡ n / base ^ i % base
digits-at base zero n i p h = absurd (omega arith)
digits-at base (suc k) n zero p h = rw (pow-zero base, div-one)
digits-at base (suc k) n (suc i) p h =
    digits-at base k (n / base) i p (omega arith)
    ∙ ap (λ m. m % base)
    (div-div-eq-div-mul n base (base ^ i) ∙ ap (λ d. n / d) (mul_comm base (base ^ i) ∙ sym (pow-suc base i)))

pub all_digits : (base k n : ℕ) → 0 < base → AreBelow base (digits base k n)
all_digits base zero n p = tt
all_digits base (suc k) n p = (mod-lt n p, all_digits base k (n / base) p)

-- a power of a power of two has the product as its exponent
pub pow-pow : (w k : ℕ) → (2 ^ w) ^ k ≡ 2 ^ (k * w)
pow-pow w zero = pow-zero (2 ^ w) ∙ ap (λ m. 2 ^ m) (sym (zero-mul w))
pow-pow w (suc k) = pow-suc (2 ^ w) k ∙ ap (λ m. m * 2 ^ w) (pow-pow w k) ∙ sym (pow-add 2 (k * w) w) ∙ ap (λ m. 2 ^ m) (sym (suc-mul k w))

-- the bits fit the bytes
fits_bytes : (m : ℕ) → 2 ^ m ≤ 256 ^ div_ceil m 8
fits_bytes m = rw (pow-pow 8 (div_ceil m 8)) (pow-le-pow_right {n = 2} (lit< tt) {i = m} {j = div_ceil m 8 * 8} (omega arith))

-- the items are read back from their bytes
pub packed-packed_bytes : (w : ℕ) (xs : List ℕ) → AreBelow (2 ^ w) xs → packed (packed_bytes w xs) w (length xs) ≡ Some xs
unfolding packed
packed-packed_bytes w xs all =
    let n = number_of (2 ^ w) xs in
    let below : n < 2 ^ (length xs * w) = rw (← pow-pow w (length xs)) (number_of-below (2 ^ w) xs (pow_pos w) all) in
    let back : number_of 256 (packed_bytes w xs) ≡ n =
    number_of-digits 256 (div_ceil (length xs * w) 8) n (lit< tt)
    (lt_of_lt_of_le below (fits_bytes (length xs * w))) in
    rw (
      length-digits 256 (div_ceil (length xs * w) 8) n,
      back,
      eq-eqb (div_ceil (length xs * w) 8) (div_ceil (length xs * w) 8) refl,
      lt-ltb n (2 ^ (length xs * w)) below,
    )
    (ap Some (digits-number_of (2 ^ w) xs (pow_pos w) all))

-- digits behind digits
pub number_of-append : (base : ℕ) (xs ys : List ℕ) → number_of base (xs ++ ys) ≡ number_of base xs + number_of base ys * base ^ length xs
number_of-append base [] ys = rw (pow-zero base) (omega arith)
number_of-append base (x ∷ xs) ys =
    let power : base ^ suc (length xs) ≡ base ^ length xs * base = pow-suc base (length xs) in
    let high : number_of base ys * base ^ suc (length xs) ≡ number_of base ys * (base ^ length xs * base) =
    ap (λ p. number_of base ys * p) power in
    let later : base * number_of base (xs ++ ys) ≡ base * (number_of base xs + number_of base ys * base ^ length xs)
    = ap (λ m. base * m) (number_of-append base xs ys) in
    omega (arith, high, later)

-- one digit more
pub number_of-push : (base : ℕ) (xs : List ℕ) (x : ℕ) → number_of base (xs ++ x ∷ []) ≡ number_of base xs + x * base ^ length xs
number_of-push base xs x = number_of-append base xs (x ∷ []) ∙ ap (λ m. number_of base xs + m * base ^ length xs) (omega arith)

-- bytes are the packed list where they are as many, and as one number the same
pub packed_bytes-closed : (w : ℕ) (xs out : List ℕ) → AreBelow 256 out → length out ≡ div_ceil (length xs * w) 8
    → number_of 256 out ≡ number_of (2 ^ w) xs → out ≡ packed_bytes w xs
packed_bytes-closed w xs out all long same =
    sym (digits-number_of 256 out (lit< tt) all)
    ∙ (ap (λ k. digits 256 k (number_of 256 out)) long ∙ ap (digits 256 (div_ceil (length xs * w) 8)) same)
