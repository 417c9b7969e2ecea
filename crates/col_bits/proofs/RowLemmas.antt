-- Rows of the table: the places of a byte's bits, and what is written of them.
use Rattle.std.proofs.Common.{◌≡◌, ℕ, ◌+◌, ◌%◌, ◌^◌, ◌<◌, ◌≤◌, List, ◌++◌, map, length, take, replicate, sym, ◌∙◌, ap, arith, length-append, length-take-le}
use lib.Count.{ones}
use Rattle.std.proofs.Math.Seq.{take-append_seam, take-append-add}
use Rattle.std.proofs.lemmas.List.{take-take, take-map}
use Rattle.col_bits.specs.Places.{set_places, row}
use Rattle.col_bits.proofs.GroupLemmas.{places-room}
use Rattle.col_bits.proofs.PlaceLemmas.{set_places-moved, places_ones}

-- a row begins with the places
taken_row : (n : ℕ) → take (length (set_places 8 0 n)) (row n) ≡ set_places 8 0 n
taken_row n =
    take-take (length (set_places 8 0 n)) 8 (set_places 8 0 n ++ replicate 8 0) (places-room 8 0 n)
    ∙ take-append_seam (set_places 8 0 n) (replicate 8 0)

-- a row has eight items
pub length-row : (n : ℕ) → length (row n) ≡ 8
length-row n = length-take-le 8 (set_places 8 0 n ++ replicate 8 0) (omega (arith, length-append (set_places 8 0 n) (replicate 8 0)))

-- what is written of a row, as far as it is kept
kept_row : (base n : ℕ) (zs : List ℕ) → base + 8 ≤ 2 ^ 32 → zs ≡ map (λ p. (p + base) % 2 ^ 32) (row n)
    → take (length (set_places 8 0 n)) zs ≡ set_places 8 base n
kept_row base n zs fits written =
    let place : 0 + base ≡ base = omega arith in
    ap (take (length (set_places 8 0 n))) written
    ∙ (take-map (λ p. (p + base) % 2 ^ 32) (length (set_places 8 0 n)) (row n)
    ∙ (ap (map (λ p. (p + base) % 2 ^ 32)) (taken_row n)
    ∙ (set_places-moved 8 0 base n (omega arith) ∙ ap (λ b. set_places 8 b n) place)))

-- what stands up to the end of a row's places
pub row_written : (base n at m : ℕ) (front zs out : List ℕ) → base + 8 ≤ 2 ^ 32 → n < 2 ^ 8 → length front ≡ at
    → zs ≡ map (λ p. (p + base) % 2 ^ 32) (row n) → take (at + 8) out ≡ front ++ zs → m ≡ at + ones n
    → take m out ≡ front ++ set_places 8 base n
row_written base n at m front zs out fits small long is written counted =
    let kept : ℕ = length (set_places 8 0 n) in
    let some : kept ≡ ones n = places_ones 8 0 n small in
    let most : kept ≤ 8 = places-room 8 0 n in
    let whole : m ≡ length front + kept = omega (arith, some, counted, long) in
    ap (λ k. take k out) whole
    ∙ (sym (take-take (length front + kept) (at + 8) out (omega arith))
    ∙ (ap (take (length front + kept)) written
    ∙ (take-append-add front zs kept
    ∙ ap (λ xs. front ++ xs) (kept_row base n zs fits is))))
