-- Items of a packed list, read through a window of eight bytes.
use Rattle.std.proofs.Common.{◌≡◌, ℕ, zero, suc, ◌+◌, ◌*◌, ◌/◌, ◌%◌, ◌^◌, ◌<◌, List, [], ◌∷◌, take, drop, get_or, slice_index, Some, refl, sym, ◌∙◌, ap, arith, zero-add, mul_comm, mul_assoc, pow-suc, div-one, div-add-mod', mul-add, mul-pos, lit<}
use Rattle.std.proofs.lemmas.Option.{cond_some}
use Rattle.std.proofs.lemmas.Nat.{pow_pos, mod-mul-add, mod_below}
use native.Mathlib.Nat.{pow-zero, add-mul-div_left, div-eq_of_lt, div-div-eq-div-mul, zero-div, zero-mod, mod-one}
use Rattle.col_common.specs.Ascending.{AreBelow}
use Rattle.col_bits.specs.Packed.{number_of, digits, packed}
use Rattle.col_bits.proofs.PackedLemmas.{digits-at, pow-pow, mul-add-lt-digit}

-- the number of the digits from place a on
pub number_of-drop : (base : ℕ) (ds : List ℕ) (a : ℕ) → 0 < base → AreBelow base ds
    → number_of base (drop a ds) ≡ number_of base ds / base ^ a
number_of-drop base ds zero p all = rw (pow-zero base, div-one) refl
number_of-drop base [] (suc a) p all = sym (zero-div (base ^ suc a))
number_of-drop base (d ∷ ds) (suc a) p all =
    let high : (d + base * number_of base ds) / base ≡ number_of base ds =
    add-mul-div_left d (number_of base ds) p ∙ ap (λ q. q + number_of base ds) (div-eq_of_lt all.0)
    ∙ zero-add _ in
    number_of-drop base ds a p all.1 ∙ ap (λ m. m / base ^ a) (sym high)
    ∙ div-div-eq-div-mul (d + base * number_of base ds) base (base ^ a)
    ∙ ap (λ m. (d + base * number_of base ds) / m) (mul_comm base (base ^ a) ∙ sym (pow-suc base a))

split : (d n base top q r : ℕ) → n ≡ q * top + r → d + base * n ≡ q * (top * base) + (d + base * r)
split d n base top q r e =
    rw (e, mul-add) (let f : base * (q * top) ≡ q * (top * base) = mul_comm base (q * top) ∙ mul_assoc q top base in
    omega (arith, f))

-- a low digit and a remainder
low_digit : (d n base top : ℕ) → d < base → 0 < top → (d + base * n) % (top * base) ≡ d + base * (n % top)
low_digit d n base top p q =
    let r : n % top < top = mod_below n top q in
    let whole : d + base * n ≡ (n / top) * (top * base) + (d + base * (n % top)) =
    split d n base top (n / top) (n % top) (sym (div-add-mod' n top)) in
    rw whole (mod-mul-add (n / top) (top * base) (d + base * (n % top)) (mul-add-lt-digit d (n % top) base top p r))

pow-pos : (base k : ℕ) → 0 < base → 0 < base ^ k
pow-pos base zero p = rw (pow-zero base) (lit< tt)
pow-pos base (suc k) p = rw (pow-suc base k) (mul-pos (pow-pos base k p) p)

-- the number of the first k digits
pub number_of-take : (base : ℕ) (ds : List ℕ) (k : ℕ) → 0 < base → AreBelow base ds
    → number_of base (take k ds) ≡ number_of base ds % base ^ k
number_of-take base ds zero p all = rw (pow-zero base) (sym (mod-one (number_of base ds)))
number_of-take base [] (suc k) p all = sym (zero-mod (base ^ suc k))
number_of-take base (d ∷ ds) (suc k) p all =
    rw (number_of-take base ds k p all.1, pow-suc base k)
    (sym (low_digit d (number_of base ds) base (base ^ k) all.0 (pow-pos base k p)))

-- an item of a packed list is a part of the bytes' number
pub packed-at : (bytes : List ℕ) (w n i : ℕ) (xs : List ℕ) → packed bytes w n ≡ Some xs → i < n
    → slice_index xs i ≡ number_of 256 bytes / 2 ^ (i * w) % 2 ^ w
unfolding packed
packed-at bytes w n i xs e h =
    let parts = cond_some _ (digits (2 ^ w) n (number_of 256 bytes)) xs e in
    ap (λ ys. get_or ys i 0) (sym parts.1) ∙ digits-at (2 ^ w) n (number_of 256 bytes) i (pow_pos w) h
    ∙ ap (λ m. number_of 256 bytes / m % 2 ^ w) (pow-pow w i)
