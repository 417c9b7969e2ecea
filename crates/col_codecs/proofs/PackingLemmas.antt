-- Blocks of values, and packed lists one behind another.
use Rattle.std.proofs.Common.{◌≡◌, ℕ, zero, suc, ◌+◌, ◌*◌, ◌/◌, ◌%◌, ◌^◌, ◌<◌, ◌≤◌, List, [], ◌∷◌, ◌++◌, length, take, drop, get_or, slice_set, min, refl, sym, ◌∙◌, ap, arith, suc-add, pow-suc, zero-add, mul_comm, mul_assoc, lit<, length-append, length-drop, length-set, map, add-one, subst}
use native.Mathlib.Nat.{pow-zero, add-mul-div_left, add-mul-mod_self_left}
use Rattle.std.specs.List.{AllByRecursion}
use Rattle.std.specs.Int.{div_ceil}
use Rattle.std.proofs.lemmas.Nat.{pow_pos, div_below}
use Rattle.std.proofs.lemmas.List.{take_more, take_more_set, drop_more}
use Rattle.std.proofs.lemmas.List.Elements.{All-get_or, All-from_recursion}
use Rattle.col_common.specs.Ascending.{AreBelow}
use Rattle.col_bits.specs.Packed.{number_of, digits, packed_bytes}
use Rattle.col_bits.proofs.PackedLemmas.{number_of-append, number_of-below, pow-pow}
use Rattle.col_codecs.proofs.ListLemmas.{head-same, tail-same}

-- ---- a block

-- the first n items of a list stand in the block, and left are those behind them
pub record IsTaken (whole block : List ℕ) (n : ℕ) (left : List ℕ) : Type 0 where
  pub room : n ≤ length block
  pub there : n ≤ length whole
  pub taken : take n block ≡ take n whole
  pub rest : left ≡ drop n whole

-- before the first item none of the block is taken
pub IsTaken-none : (whole block : List ℕ) → IsTaken whole block 0 whole
IsTaken-none whole block = record { room = omega arith; there = omega arith; taken = refl; rest = refl }

-- one item more
pub IsTaken-push : (whole block left rest : List ℕ) (n x : ℕ) → IsTaken whole block n left → n < length block
    → left ≡ x ∷ rest → IsTaken whole (slice_set block n x) (n + 1) rest
IsTaken-push whole block left rest n x h room e =
    let front : drop n whole ≡ x ∷ rest = sym h.rest ∙ e in
    let there : n < length whole = omega (arith, length-drop n whole, ap length front) in
    let parts : get_or whole n 0 ∷ drop (n + 1) whole ≡ x ∷ rest = sym (drop_more whole n 0 there) ∙ front in
    let item = head-same (get_or whole n 0) x (drop (n + 1) whole) rest parts in
    record {
      room = rw (length-set block n x) (omega (arith, room));
      there = omega (arith, there);
      taken =
          take_more_set block n x room ∙ ap (λ ys. ys ++ x ∷ []) h.taken
          ∙ ap (λ y. take n whole ++ y ∷ []) (sym item) ∙ sym (take_more whole n 0 there);
      rest = sym (tail-same (get_or whole n 0) x (drop (n + 1) whole) rest parts);
    }

-- the list's end
pub IsTaken-end : (whole block left : List ℕ) (n : ℕ) → IsTaken whole block n left → left ≡ [] → n ≡ min (length block) (length whole)
IsTaken-end whole block left n h e = omega (arith, h.room, h.there, length-drop n whole, ap length h.rest, ap length e)

-- the block's end
pub IsTaken-full : (whole block left : List ℕ) (n : ℕ) → IsTaken whole block n left → length block ≤ n
    → n ≡ min (length block) (length whole)
IsTaken-full whole block left n h full = omega (arith, h.room, h.there)

-- ---- items that are replaced in place

-- the first items are replaced by their images
abbrev pub replaced : (ℕ → ℕ) → List ℕ → ℕ → List ℕ
replaced f xs n = map f (take n xs) ++ drop n xs

replaced-at : (f : ℕ → ℕ) (xs : List ℕ) (n : ℕ) → n < length xs → get_or (replaced f xs n) n 0 ≡ get_or xs n 0
replaced-at f [] n h = absurd (omega arith)
replaced-at f (x ∷ xs) zero h = refl
replaced-at f (x ∷ xs) (suc n) h = replaced-at f xs n (omega arith)

replaced-set : (f : ℕ → ℕ) (xs : List ℕ) (n : ℕ) → n < length xs → slice_set (replaced f xs n) n (f (get_or xs n 0)) ≡ replaced f xs (suc n)
replaced-set f [] n h = absurd (omega arith)
replaced-set f (x ∷ xs) zero h = refl
replaced-set f (x ∷ xs) (suc n) h = ap (λ ys. f x ∷ ys) (replaced-set f xs n (omega arith))

-- the next one is as it was
pub next-as_it_was : (f : ℕ → ℕ) (xs ys : List ℕ) (n : ℕ) → ys ≡ replaced f xs n → n < length ys
    → (n < length xs) × (get_or ys n 0 ≡ get_or xs n 0)
next-as_it_was f xs ys n e h =
    let long : length ys ≡ length xs = ap length e ∙ length-replaced f xs n in
    let within : n < length xs = omega (arith, long) in
    (within, ap (λ zs. get_or zs n 0) e ∙ replaced-at f xs n within)
  where
    length-replaced : (f : ℕ → ℕ) (xs : List ℕ) (n : ℕ) → length (replaced f xs n) ≡ length xs
    length-replaced f xs zero = refl
    length-replaced f [] (suc n) = refl
    length-replaced f (x ∷ xs) (suc n) = ap suc (length-replaced f xs n)

-- what holds of each item as it was holds of the next one
pub next-holds : (P : ℕ → Type 0) (f : ℕ → ℕ) (xs ys : List ℕ) (n : ℕ) → ys ≡ replaced f xs n → n < length ys
    → AllByRecursion P xs → P (get_or ys n 0)
next-holds P f xs ys n e h all =
    let next = next-as_it_was f xs ys n e h in
    subst P (sym next.1) (All-get_or P xs n 0 next.0 (All-from_recursion P xs all))

-- one more is replaced
pub replaced-push : (f : ℕ → ℕ) (xs ys : List ℕ) (n y : ℕ) → ys ≡ replaced f xs n → n < length ys
    → y ≡ f (get_or ys n 0) → slice_set ys n y ≡ replaced f xs (n + 1)
replaced-push f xs ys n y e h is =
    let next = next-as_it_was f xs ys n e h in
    ap (slice_set ys n) (is ∙ ap f next.1) ∙ ap (λ zs. slice_set zs n (f (get_or xs n 0))) e
    ∙ replaced-set f xs n next.0 ∙ ap (replaced f xs) (sym (add-one n))

-- ---- bytes

-- the low digits don't see what stands above them, and the digits from there on are those of what does
digits-append : (base k m low high : ℕ) → 0 < base → low < base ^ k
    → digits base (k + m) (low + high * base ^ k) ≡ digits base k low ++ digits base m high
digits-append base zero m low high p h =
    let one : base ^ 0 ≡ 1 = pow-zero base in
    let whole : high * base ^ 0 ≡ high * 1 = ap (λ n. high * n) one in
    ap (λ n. digits base n (low + high * base ^ 0)) (zero-add m) ∙ ap (digits base m) (omega (arith, h, one, whole))
digits-append base (suc k) m low high p h =
    let above : high * base ^ suc k ≡ base * (high * base ^ k) =
    ap (λ n. high * n) (pow-suc base k) ∙ sym (mul_assoc high (base ^ k) base)
    ∙ mul_comm (high * base ^ k) base in
    let low_digit : (low + base * (high * base ^ k)) % base ≡ low % base = add-mul-mod_self_left low base (high * base ^ k) in
    let others : (low + base * (high * base ^ k)) / base ≡ low / base + high * base ^ k = add-mul-div_left low (high * base ^ k) p in
    ap (λ n. digits base n (low + high * base ^ suc k)) (suc-add k m)
    ∙ ap (λ n. digits base (suc (k + m)) (low + n)) above
    ∙ ap (λ d. d ∷ digits base (k + m) ((low + base * (high * base ^ k)) / base)) low_digit
    ∙ ap (λ n. low % base ∷ digits base (k + m) n) others
    ∙ ap (λ ds. low % base ∷ ds) (digits-append base k m (low / base) high p (div_below low base (base ^ k) p (rw (pow-suc base k) at h)))

-- Where the bits of the first items fill whole bytes, the bytes of all are those of the first, and then those of the others.
pub packed_bytes-append : (w : ℕ) (xs ys : List ℕ) → AreBelow (2 ^ w) xs → length xs % 8 ≡ 0
    → packed_bytes w (xs ++ ys) ≡ packed_bytes w xs ++ packed_bytes w ys
packed_bytes-append w xs ys all e =
    let q = length xs / 8 in
    let k = q * w in
    let m = div_ceil (length ys * w) 8 in
    let low = number_of (2 ^ w) xs in
    let high = number_of (2 ^ w) ys in
    let eights : length xs * w ≡ q * 8 * w = ap (λ n. n * w) (omega (arith, e)) in
    let long : length xs * w ≡ k * 8 = omega (arith, eights) in
    let both : length (xs ++ ys) * w ≡ (length xs + length ys) * w = ap (λ n. n * w) (length-append xs ys) in
    let bytes : div_ceil (length (xs ++ ys) * w) 8 ≡ k + m = omega (arith, both, long) in
    let first : div_ceil (length xs * w) 8 ≡ k = omega (arith, long) in
    let power : (2 ^ w) ^ length xs ≡ 256 ^ k = pow-pow w (length xs) ∙ ap (λ n. 2 ^ n) long ∙ sym (pow-pow 8 k) in
    let below : low < 256 ^ k = rw (← power) (number_of-below (2 ^ w) xs (pow_pos w) all) in
    let whole : number_of (2 ^ w) (xs ++ ys) ≡ low + high * 256 ^ k = number_of-append (2 ^ w) xs ys ∙ ap (λ n. low + high * n) power in
    ap (λ n. digits 256 n (number_of (2 ^ w) (xs ++ ys))) bytes
    ∙ ap (digits 256 (k + m)) whole
    ∙ digits-append 256 k m low high (lit< tt) below
    ∙ ap (λ n. digits 256 n low ++ digits 256 m high) (sym first)
