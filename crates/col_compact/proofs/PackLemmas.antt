-- Codes on their way into a packed list.
use Rattle.std.proofs.Common.{◌≡◌, ℕ, ◌+◌, ◌*◌, ◌^◌, ◌<◌, ◌≤◌, List, [], ◌∷◌, ◌++◌, length, map, take, drop, get_or, sym, ◌∙◌, ap, subst, inl, inr, arith}
use Rattle.std.specs.Int.{div_ceil}
use Rattle.std.specs.Prelude.{◌==◌, nat_le}
use Rattle.std.proofs.lemmas.Bool.{or_cases, leb-true, eqb-true}
use Rattle.std.proofs.lemmas.List.{map-append, drop_more, get_or-take, length-take-le}
use Rattle.col_bits.specs.Packed.{number_of, packed_bytes, width}
use Rattle.col_bits.specs.Packing.{Held, bits_of, count_of, AddsBytes}
use Rattle.col_bits.proofs.PackingLemmas.{IsPacking, IsPacking-push, IsPacking-close}
use Rattle.col_model.proofs.WidthLaws.{width-above}
use Rattle.col_model.proofs.CodecLaws.{is_width-width}

-- a code up to the greatest has its width
pub has_width : (n code bits : ℕ) → n < 2 ^ 32 → code ≤ n → bits ≡ width n → code < 2 ^ bits
has_width n code bits small upto e =
    let above = width-above n (omega (arith, small)) in
    rw e (omega (arith, above, upto))

-- the next item of a block stands before what is left
pub block-next : (block left : List ℕ) (n i : ℕ) → i < n → n ≤ length block
    → drop i (take n block) ++ left ≡ get_or block i 0 ∷ (drop (i + 1) (take n block) ++ left)
block-next block left n i below room =
    let long : length (take n block) ≡ n = length-take-le n block room in
    ap (λ ys. ys ++ left) (drop_more (take n block) i 0 (omega (arith, long, below))
    ∙ ap (λ x. x ∷ drop (i + 1) (take n block)) (get_or-take n block i 0 below))

-- a block that took nothing, before nothing
pub block-none : (block left whole : List ℕ) (n : ℕ) → take n block ++ left ≡ whole → left ≡ [] → n ≡ 0 → whole ≡ []
block-none block left whole n e none zero = sym e ∙ ap (λ k. take k block ++ left) zero ∙ none

-- no width is above 64
pub width-most : (n : ℕ) → width n ≤ 64
width-most n = elim (or_cases (nat_le (width n) 56) (width n == 64) (is_width-width n)) [
  | inl e ↦ let narrow = leb-true (width n) 56 e in omega (arith, narrow)
  | inr e ↦ let wide = eqb-true (width n) 64 e in omega (arith, wide)
]

-- one code more
pub packs-more : (f : ℕ → ℕ) (w : ℕ) (found : List ℕ) (x code : ℕ) (held now : Held) (bytes out : List ℕ)
    → IsPacking [] w (map f found) held bytes → code ≡ f x
    → bits_of now out ≡ bits_of held bytes + code * 2 ^ count_of held bytes
    → count_of now out ≡ count_of held bytes + w → AddsBytes bytes out
    → IsPacking [] w (map f (found ++ x ∷ [])) now out
packs-more f w found x code held now bytes out h e bits count adds =
    subst (λ items. IsPacking [] w items now out) (ap (λ c. map f found ++ c ∷ []) e ∙ sym (map-append f found (x ∷ [])))
    (IsPacking-push [] w (map f found) held now bytes out code h bits count adds)

-- all
pub packs-all : (f : ℕ → ℕ) (w n : ℕ) (xs : List ℕ) (held : Held) (bytes out : List ℕ) → w ≡ n → IsPacking [] w (map f xs) held bytes
    → number_of 256 out ≡ bits_of held bytes → length out ≡ div_ceil (count_of held bytes) 8 → AddsBytes bytes out
    → out ≡ packed_bytes n (map f xs)
packs-all f w n xs held bytes out e h bits count adds =
    IsPacking-close [] w (map f xs) held bytes out h bits count adds ∙ ap (λ v. packed_bytes v (map f xs)) e
