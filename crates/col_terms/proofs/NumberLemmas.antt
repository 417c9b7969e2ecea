-- Numbers of four bytes each.
use Rattle.std.proofs.Common.{◌≡◌, ℕ, zero, suc, ◌+◌, ◌*◌, ◌<◌, nat_le, Bool, true, false, List, ◌∷◌, length, take, drop, get_or, Some, refl, ap, ◌∙◌, arith}
use Rattle.std.specs.Int.{w32, from_le_bytes}
use Rattle.std.proofs.lemmas.Bool.{le-leb, lt-leb, leb-false}
use Rattle.std.proofs.lemmas.Bool.Decides.{nat_tests}
use Rattle.std.proofs.lemmas.List.{length-drop, drop-drop, drop_more}
use Rattle.col_common.specs.Reading.{◌>>=◌, only_if, le_number, items}
use Rattle.col_terms.specs.TermTable.{number_at, numbers_in}

-- a number and what stands behind it
abbrev Number : Type 0
Number = ℕ × List ℕ

-- numbers and what stands behind them
abbrev Numbers : Type 0
Numbers = List ℕ × List ℕ

behind : (c : Bool) (e : ℕ) (xs rest : List ℕ)
    → ◌>>=◌ {A = Numbers} {B = Numbers} (only_if {A = Numbers} c (xs, rest)) (λ q. Some (e ∷ q.0, q.1))
    ≡ only_if {A = Numbers} c (e ∷ xs, rest)
behind true e xs rest = refl
behind false e xs rest = refl

-- numbers are read as long as there are four bytes for each
pub items-numbers : (n : ℕ) (bytes : List ℕ)
    → items (le_number w32) n bytes
    ≡ only_if {A = Numbers} (nat_le (4 * n) (length bytes)) (numbers_in n bytes, drop (4 * n) bytes)
unfolding items numbers_in number_at
items-numbers zero bytes = rw (le-leb 0 (length bytes) (omega arith)) refl
items-numbers (suc n) bytes = go (nat_le 4 (length bytes)) refl (items-numbers n (drop 4 bytes))
  where
    after : List ℕ
    after = drop 4 bytes

    all : ℕ → List ℕ × List ℕ
    all e = (e ∷ numbers_in n after, drop (4 * suc n) bytes)

    read : ℕ
    read = from_le_bytes w32 (take 4 bytes)

    tests : nat_le 4 (length bytes) ≡ true → nat_le (4 * n) (length after) ≡ nat_le (4 * suc n) (length bytes)
    tests e = let l = length-drop 4 bytes in grind (arith, nat_tests)

    tail : drop (4 * n) after ≡ drop (4 * suc n) bytes
    tail = drop-drop (4 * n) 4 bytes ∙ ap (λ k. drop k bytes) (omega arith)

    go : (b : Bool) → nat_le 4 (length bytes) ≡ b
        → items (le_number w32) n after
        ≡ only_if {A = Numbers} (nat_le (4 * n) (length after)) (numbers_in n after, drop (4 * n) after)
        → ◌>>=◌ {A = Number} {B = Numbers} (◌>>=◌ {A = Numbers} {B = Number}
        (only_if {A = Numbers} b (take 4 bytes, after)) (λ p. Some (from_le_bytes w32 p.0, p.1)))
        (λ p. ◌>>=◌ {A = Numbers} {B = Numbers} (items (le_number w32) n p.1) (λ q. Some (p.0 ∷ q.0, q.1)))
        ≡ only_if {A = Numbers} (nat_le (4 * suc n) (length bytes)) (all (number_at bytes 0))
    go true e later =
        ap (λ o. ◌>>=◌ {A = Numbers} {B = Numbers} o (λ q. Some (read ∷ q.0, q.1))) later
        ∙ behind (nat_le (4 * n) (length after)) read (numbers_in n after) (drop (4 * n) after)
        ∙ ap (λ c. only_if {A = Numbers} c (read ∷ numbers_in n after, drop (4 * n) after)) (tests e)
        ∙ ap (λ r. only_if {A = Numbers} (nat_le (4 * suc n) (length bytes)) (read ∷ numbers_in n after, r)) tail
    go false e later = rw (lt-leb (4 * suc n) (length bytes) (omega (arith, leb-false 4 (length bytes) e))) refl

-- there are as many numbers as are asked for
pub length-numbers_in : (n : ℕ) (bytes : List ℕ) → length (numbers_in n bytes) ≡ n
unfolding numbers_in
length-numbers_in zero bytes = refl
length-numbers_in (suc n) bytes = ap suc (length-numbers_in n (drop 4 bytes))

-- a number behind others
pub number_at-drop : (k at : ℕ) (bytes : List ℕ) → number_at (drop k bytes) at ≡ number_at bytes (k + at)
unfolding number_at
number_at-drop k at bytes = ap (λ r. from_le_bytes w32 (take 4 r)) (drop-drop at k bytes)

-- the number at its place
pub get_or-numbers_in : (n : ℕ) (bytes : List ℕ) (i : ℕ) → i < n → get_or (numbers_in n bytes) i 0 ≡ number_at bytes (4 * i)
unfolding numbers_in
get_or-numbers_in zero bytes i h = absurd (omega arith)
get_or-numbers_in (suc n) bytes zero h = refl
get_or-numbers_in (suc n) bytes (suc i) h =
    get_or-numbers_in n (drop 4 bytes) i (omega arith) ∙ number_at-drop 4 (4 * i) bytes
    ∙ ap (number_at bytes) (omega arith)

-- the numbers that are left
pub drop-numbers_in : (n : ℕ) (bytes : List ℕ) (i : ℕ) → i < n
    → drop i (numbers_in n bytes) ≡ number_at bytes (4 * i) ∷ drop (i + 1) (numbers_in n bytes)
drop-numbers_in n bytes i h =
    drop_more (numbers_in n bytes) i 0 (omega (arith, length-numbers_in n bytes))
    ∙ ap (λ e. e ∷ drop (i + 1) (numbers_in n bytes)) (get_or-numbers_in n bytes i h)
