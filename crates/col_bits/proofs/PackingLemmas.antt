-- Writes of one width, and a close, give the packed list.
use Rattle.std.proofs.Common.{◌≡◌, ℕ, ◌+◌, ◌*◌, ◌/◌, ◌^◌, ◌<◌, List, [], ◌∷◌, ◌++◌, length, sym, ◌∙◌, ap, arith, refl, length-append, append_assoc, append-nil}
use Rattle.std.proofs.lemmas.Nat.{pow-add, shl-shr}
use Rattle.std.proofs.lemmas.List.Elements.{recursion_from_All, All-from_recursion, All-append}
use Rattle.std.specs.Int.{div_ceil}
use Rattle.col_bits.specs.Packed.{number_of, packed_bytes}
use Rattle.col_bits.specs.Packing.{Held, nothing_held, bits_of, count_of, AddsBytes}
use Rattle.col_bits.proofs.PackedLemmas.{number_of-push, pow-pow, packed_bytes-closed}
use Rattle.col_bits.proofs.WriteLemmas.{bytes-append}

-- Behind the bytes that stood before, what is written and held is items of w bits.
pub record IsPacking (before : List ℕ) (w : ℕ) (items : List ℕ) (held : Held) (bytes : List ℕ) : Type 0 where
  pub bits : bits_of held bytes ≡ number_of 256 before + number_of (2 ^ w) items * 2 ^ (8 * length before)
  pub count : count_of held bytes ≡ 8 * length before + length items * w
  pub adds : AddsBytes before bytes

-- no bytes are added where none came
pub AddsBytes-nil : (xs : List ℕ) → AddsBytes xs xs
AddsBytes-nil xs = record { added = []; bytes = tt; front = sym (append-nil xs) }

pub AddsBytes-trans : (xs ys zs : List ℕ) → AddsBytes xs ys → AddsBytes ys zs → AddsBytes xs zs
AddsBytes-trans xs ys zs h k =
    let IsByte : ℕ → Type 0 = λ b. b < 256 in
    record {
      added = h.added ++ k.added;
      bytes =
          recursion_from_All IsByte (h.added ++ k.added) (All-append IsByte h.added k.added
          (All-from_recursion IsByte h.added h.bytes) (All-from_recursion IsByte k.added k.bytes));
      front = k.front ∙ (ap (λ s. s ++ k.added) h.front ∙ append_assoc xs h.added k.added);
    }

-- a packer that holds nothing has packed no items
pub IsPacking-nil : (before : List ℕ) (w : ℕ) → IsPacking before w [] nothing_held before
IsPacking-nil before w = record { bits = refl; count = omega arith; adds = AddsBytes-nil before }

-- a write appends an item
pub IsPacking-push :
    (before : List ℕ) (w : ℕ) (items : List ℕ) (held held' : Held) (bytes bytes' : List ℕ) (value : ℕ)
    → IsPacking before w items held bytes
    → bits_of held' bytes' ≡ bits_of held bytes + value * 2 ^ count_of held bytes
    → count_of held' bytes' ≡ count_of held bytes + w → AddsBytes bytes bytes'
    → IsPacking before w (items ++ value ∷ []) held' bytes'
IsPacking-push before w items held held' bytes bytes' value h bits count adds =
    let p : ℕ = 2 ^ (8 * length before) in
    let q : ℕ = 2 ^ (length items * w) in
    let place : value * 2 ^ count_of held bytes ≡ value * (p * q) =
    ap (λ n. value * n) (ap (λ n. 2 ^ n) h.count ∙ pow-add 2 (8 * length before) (length items * w)) in
    let pushed : number_of (2 ^ w) (items ++ value ∷ []) * p ≡ (number_of (2 ^ w) items + value * q) * p =
    ap (λ n. n * p) (number_of-push (2 ^ w) items value
    ∙ ap (λ n. number_of (2 ^ w) items + value * n) (pow-pow w (length items))) in
    let long : length (items ++ value ∷ []) * w ≡ (length items + 1) * w = ap (λ n. n * w) (length-append items (value ∷ [])) in
    record {
      bits = omega (arith, bits, h.bits, place, pushed);
      count = omega (arith, count, h.count, long);
      adds = AddsBytes-trans before bytes bytes' h.adds adds;
    }

-- after a close the items' bytes are appended
pub IsPacking-close : (before : List ℕ) (w : ℕ) (items : List ℕ) (held : Held) (bytes out : List ℕ)
    → IsPacking before w items held bytes → number_of 256 out ≡ bits_of held bytes
    → length out ≡ div_ceil (count_of held bytes) 8 → AddsBytes bytes out → out ≡ before ++ packed_bytes w items
IsPacking-close before w items held bytes out h bits count adds =
    let n : ℕ = number_of (2 ^ w) items in
    let p : ℕ = 2 ^ (8 * length before) in
    let all = AddsBytes-trans before bytes out h.adds adds in
    let added : List ℕ = all.added in
    let long : length out ≡ length before + length added = ap length all.front ∙ length-append before added in
    let filled : length added ≡ div_ceil (length items * w) 8 = omega (arith, long, count, h.count) in
    let whole : number_of 256 out ≡ number_of 256 before + number_of 256 added * p =
    ap (number_of 256) all.front ∙ bytes-append before added in
    let scaled : number_of 256 added * p ≡ n * p = omega (arith, whole, bits, h.bits) in
    let same : number_of 256 added ≡ n = sym (shl-shr (number_of 256 added) (8 * length before))
    ∙ (ap (λ m. m / p) scaled ∙ shl-shr n (8 * length before)) in
    all.front ∙ ap (λ ys. before ++ ys) (packed_bytes-closed w items added all.bytes filled same)
