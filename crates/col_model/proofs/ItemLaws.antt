-- Items of packed lists and of lists above a line, by arithmetic.
use Rattle.std.proofs.Common.{◌≡◌, ℕ, zero, suc, ◌+◌, ◌-◌, ◌*◌, ◌/◌, ◌%◌, ◌^◌, ◌<◌, ◌≤◌, Bool, true, false, List, ◌∷◌, ◌++◌, map, length, take, drop, slice_index, Some, None, refl, ap, sym, ◌∙◌, arith}
use Rattle.std.specs.List.{enumerate_from, range_with_len}
use Rattle.std.proofs.lemmas.List.{take-append-drop, length-take-le}
use Rattle.std.proofs.lemmas.List.FromFn.{fill_by_all, length-map-range_with_len, get_or-map-range_with_len}
use Rattle.std.proofs.lemmas.Nat.{pow-add, pow_pos, row_fits}
use native.Mathlib.Nat.{add-mul-mod_self_right, add-mul-div_right}
use Rattle.col_common.specs.Reading.{only_if, ◌>>=◌}
use Rattle.col_bits.specs.Packed.{number_of, digits, item, packed, is_packed}
use Rattle.col_bits.proofs.PackedLemmas.{digits-at, length-digits, pow-pow, number_of-append}
use Rattle.col_model.specs.Stats.{Stats}
use Rattle.col_model.specs.Line.{line}
use Rattle.col_model.specs.U64List.{LinearParams, params_at, above_line, linear_values}
use Rattle.col_model.specs.Items.{linear_item, linear_items}

-- the digits of the bytes' number are its items
pub digits-items : (bytes : List ℕ) (w n : ℕ) → digits (2 ^ w) n (number_of 256 bytes) ≡ map (item bytes w) (range_with_len 0 n)
digits-items bytes w n =
    let m = number_of 256 bytes in
    fill_by_all (item bytes w) (digits (2 ^ w) n m) n 0 (length-digits (2 ^ w) n m)
    (λ i h. digits-at (2 ^ w) n m i (pow_pos w) h ∙ ap (λ p. m / p % 2 ^ w) (pow-pow w i))

-- a packed list by its items
pub packed-items : (bytes : List ℕ) (w n : ℕ)
    → packed bytes w n ≡ only_if (is_packed bytes (n * w)) (map (item bytes w) (range_with_len 0 n))
unfolding packed
packed-items bytes w n = ap (only_if (is_packed bytes (n * w))) (digits-items bytes w n)

-- bits from a on, w of them, are those of the number's lower part
lower : (x y a w r : ℕ) → (x + y * 2 ^ (a + (w + r))) / 2 ^ a % 2 ^ w ≡ x / 2 ^ a % 2 ^ w
lower x y a w r =
    let high : y * 2 ^ (a + (w + r)) ≡ y * 2 ^ r * 2 ^ w * 2 ^ a = rw (pow-add 2 a (w + r), pow-add 2 w r) (omega arith) in
    rw (high, add-mul-div_right x (y * 2 ^ r * 2 ^ w) (pow_pos a), add-mul-mod_self_right) refl

-- what stands behind the packed items changes none of them
pub item-append : (a b : List ℕ) (w n i : ℕ) → i < n → n * w ≤ 8 * length a → item (a ++ b) w i ≡ item a w i
item-append a b w n i h fits =
    let m = length a in
    let r = m * 8 - (i * w + w) in
    let room : i * w + w ≤ n * w = row_fits i w n w h (omega arith) in
    let bits : m * 8 ≡ i * w + (w + r) = omega arith in
    let whole : number_of 256 (a ++ b) ≡ number_of 256 a + number_of 256 b * 2 ^ (i * w + (w + r)) =
    number_of-append 256 a b ∙ ap (λ p. number_of 256 a + number_of 256 b * p) (pow-pow 8 m ∙ ap (λ k. 2 ^ k) bits) in
    rw whole (lower (number_of 256 a) (number_of 256 b) (i * w) w r)

-- so items are the same in the bytes' front
pub item-take : (bytes : List ℕ) (w n i len : ℕ) → i < n → n * w ≤ 8 * len → len ≤ length bytes → item (take len bytes) w i ≡ item bytes w i
item-take bytes w n i len h fits within =
    let long : length (take len bytes) ≡ len = length-take-le len bytes within in
    sym (item-append (take len bytes) (drop len bytes) w n i h (rw long fits)) ∙ ap (λ b. item b w i) (take-append-drop len bytes)

-- the items of a packed list at the front of the bytes
pub packed-front : (bytes : List ℕ) (w n len : ℕ) → n * w ≤ 8 * len → len ≤ length bytes
    → packed (take len bytes) w n
    ≡ only_if (is_packed (take len bytes) (n * w)) (map (item bytes w) (range_with_len 0 n))
packed-front bytes w n len fits within =
    packed-items (take len bytes) w n
    ∙ ap (only_if (is_packed (take len bytes) (n * w))) (same-range (item (take len bytes) w) (item bytes w) 0 n n
    (omega arith) (λ i h. item-take bytes w n i len h fits within))
  where
    same-range : (f g : ℕ → ℕ) (a k n : ℕ) → a + k ≤ n → ((i : ℕ) → i < n → f i ≡ g i)
        → map f (range_with_len a k) ≡ map g (range_with_len a k)
    same-range f g a zero n h e = refl
    same-range f g a (suc k) n h e = rw (e a (omega arith)) (ap (λ r. g a ∷ r) (same-range f g (a + 1) k n (omega arith) e))

-- what is made of a value that a test lets through
pub only_if-then : {A B : Type 0} (f : A → B) (b : Bool) (x : A) → (only_if b x >>= λ y. Some (f y)) ≡ only_if b (f x)
only_if-then f true x = refl
only_if-then f false x = refl

-- a value that is given under a test says that the test holds, and is that value
pub only_if-some : {A : Type 0} (b : Bool) (x y : A) → Some x ≡ only_if b y → (b ≡ true) × (x ≡ y)
only_if-some true x y e = (refl, cc)
only_if-some false x y e = absurd (cc)

-- a value that isn't given under a test says that the test fails
pub only_if-none : {A : Type 0} (b : Bool) (x : A) → None ≡ only_if b x → b ≡ false
only_if-none true x e = absurd (cc)
only_if-none false x e = refl

-- offsets above a line, place by place
above-range : (l : LinearParams) (f : ℕ → ℕ) (k n : ℕ)
    → map (above_line l) (enumerate_from k (map f (range_with_len k n)))
    ≡ map (λ i. (line l.slope l.intercept i + f i) % 2 ^ 64) (range_with_len k n)
above-range l f k zero = refl
above-range l f k (suc n) = ap (λ r. (line l.slope l.intercept k + f k) % 2 ^ 64 ∷ r) (above-range l f (k + 1) n)

-- packed offsets taken above their line are the items that the line's bytes stand for
pub above_line-items : (l : LinearParams) (bytes : List ℕ) (n : ℕ)
    → map (above_line l) (enumerate_from 0 (map (item bytes l.offset_width) (range_with_len 0 n)))
    ≡ linear_items l bytes n
above_line-items l bytes n = above-range l (item bytes l.offset_width) 0 n

-- a list under Linear, where its line is read
pub linear_values-some : (s : Stats) (bytes : List ℕ) (l : LinearParams) (rest : List ℕ)
    → params_at bytes ≡ Some (l, rest)
    → linear_values s bytes ≡ only_if (is_packed rest (s.count * l.offset_width)) (linear_items l rest s.count)
unfolding linear_values
linear_values-some s bytes l rest e =
    let test = is_packed rest (s.count * l.offset_width) in
    let offsets = map (item rest l.offset_width) (range_with_len 0 s.count) in
    rw (e, packed-items rest l.offset_width s.count) (
    only_if-then (λ os. map (above_line l) (enumerate_from 0 os)) test offsets
    ∙ ap (only_if test) (above_line-items l rest s.count))

-- bytes that spell no line stand for no list
pub linear_values-none : (s : Stats) (bytes : List ℕ) → params_at bytes ≡ None → linear_values s bytes ≡ None
unfolding linear_values
linear_values-none s bytes e = rw e refl

-- ---- for a reader of the items

-- a line's bytes stand for as many items as are asked for
pub length-linear_items : (l : LinearParams) (bytes : List ℕ) (n : ℕ) → length (linear_items l bytes n) ≡ n
length-linear_items l bytes n = length-map-range_with_len (linear_item l bytes) 0 n

-- the item at a position below n is the one that the line's bytes have there
pub linear_items-at : (l : LinearParams) (bytes : List ℕ) (n i : ℕ) → i < n → slice_index (linear_items l bytes n) i ≡ linear_item l bytes i
linear_items-at l bytes n i h = get_or-map-range_with_len (linear_item l bytes) 0 n i i 0 h (omega arith)
