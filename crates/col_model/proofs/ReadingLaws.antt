-- What is put together is taken apart again.
use Rattle.std.proofs.Common.{◌≡◌, ℕ, ◌+◌, ◌-◌, ◌^◌, ◌<◌, List, [], ◌∷◌, ◌++◌, length, flat_map, Some, Option, refl, ap, arith, append_assoc, length-append}
use Rattle.std.specs.List.{AllByRecursion}
use Rattle.std.specs.Int.{w32, w64, to_le_bytes}
use Rattle.std.proofs.lemmas.Bool.{le-leb}
use Rattle.std.proofs.lemmas.Nat.{from_le_bytes-to_le_bytes_4, from_le_bytes-to_le_bytes_8}
use Rattle.col_common.specs.Reading.{front, back, le_number, parts_by_first, parts_by_second, items}
use Rattle.std.proofs.Math.Seq.{take-append_seam, drop-append_seam}

-- two joined byte lists are cut where the first ends
pub front-append : (n : ℕ) (a b : List ℕ) → n ≡ length a → front n (a ++ b) ≡ Some (a, b)
front-append n a b e =
    let fits = le-leb (length a) (length a + length b) (omega arith) in
    rw (e, take-append_seam a b, drop-append_seam a b, length-append a b, fits)

-- two joined byte lists are cut, from the back, where the second begins
pub back-append : (n : ℕ) (a b : List ℕ) → n ≡ length b → back n (a ++ b) ≡ Some (a, b)
back-append n a b e =
    let cut : length (a ++ b) - n ≡ length a = rw (length-append a b, e) (omega arith) in
    rw (cut, take-append_seam a b, drop-append_seam a b, length-append a b, e, le-leb (length b) (length a + length b) (omega arith))

-- a number below 2 ^ 64 is read back from its eight bytes, with what follows them
pub le_number-w64 : (n : ℕ) (rest : List ℕ) → n < 2 ^ 64 → le_number w64 (to_le_bytes w64 n ++ rest) ≡ Some (n, rest)
le_number-w64 n rest h = rw (front-append 8 (to_le_bytes w64 n) rest refl) (ap (λ m. Some (m, rest)) (from_le_bytes-to_le_bytes_8 n h))

-- a number below 2 ^ 32 is read back from its four bytes, with what follows them
pub le_number-w32 : (n : ℕ) (rest : List ℕ) → n < 2 ^ 32 → le_number w32 (to_le_bytes w32 n ++ rest) ≡ Some (n, rest)
le_number-w32 n rest h = rw (front-append 4 (to_le_bytes w32 n) rest refl) (ap (λ m. Some (m, rest)) (from_le_bytes-to_le_bytes_4 n h))

-- two parts with the length of the first behind them
pub parts_by_first-w64 : (a b : List ℕ) → length a < 2 ^ 64 → parts_by_first w64 ((a ++ b) ++ to_le_bytes w64 (length a)) ≡ Some (a, b)
unfolding parts_by_first
parts_by_first-w64 a b h =
    rw (back-append 8 (a ++ b) (to_le_bytes w64 (length a)) refl)
    (front-append _ a b (from_le_bytes-to_le_bytes_8 (length a) h))

-- two parts with the second's length of eight bytes at the end are taken apart again
pub parts_by_second-w64 : (a b : List ℕ) → length b < 2 ^ 64 → parts_by_second w64 ((a ++ b) ++ to_le_bytes w64 (length b)) ≡ Some (a, b)
unfolding parts_by_second
parts_by_second-w64 a b h =
    rw (back-append 8 (a ++ b) (to_le_bytes w64 (length b)) refl)
    (back-append _ a b (from_le_bytes-to_le_bytes_8 (length b) h))

-- items that are spelled one after another are read, whatever follows
pub items-flat_map : {A : Type 0} (item : List ℕ → Option (A × List ℕ)) (spelled : A → List ℕ) (P : A → Type 0)
    → ((x : A) (rest : List ℕ) → P x → item (spelled x ++ rest) ≡ Some (x, rest))
    → (xs : List A) (rest : List ℕ) → AllByRecursion P xs → items item (length xs) (flat_map spelled xs ++ rest) ≡ Some (xs, rest)
unfolding items
items-flat_map item spelled P reads [] rest all = refl
items-flat_map item spelled P reads (x ∷ xs) rest all =
    rw
    (append_assoc, reads x (flat_map spelled xs ++ rest) all.0, items-flat_map item spelled P reads xs rest all.1)
