-- What a walk over a list gives.
use Rattle.std.specs.Prelude.{◌≡◌, ℕ, zero, suc, ℤ, pos, negsuc, ◌+ℤ◌, ◌-ℤ◌, List, [], ◌∷◌, Option, MatchOption}

-- The next of the items left, and what is left behind it; nothing where none is left.
abbrev pub IsNext : {T : Type 0} → List T → Option T → List T → Type 0
IsNext before result after =
    MatchOption result ((before ≡ []) × (after ≡ [])) (λ x. before ≡ x ∷ after)

-- how far a number is above 0
abbrev pub above_zero : ℤ → ℕ
above_zero (pos n) = n
above_zero (negsuc n) = 0

-- how many signed numbers there are from low up to high, without it
abbrev pub int_range_len : ℤ → ℤ → ℕ
int_range_len low high = above_zero (high -ℤ low)

-- n signed numbers, from low on
abbrev pub int_range : ℤ → ℕ → List ℤ
int_range low zero = []
int_range low (suc n) = low ∷ int_range (low +ℤ pos 1) n
