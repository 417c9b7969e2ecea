-- For a writer of numbers that goes from the lowest group up.
use Rattle.std.proofs.Common.{◌≡◌, ℕ, zero, suc, ◌+◌, ◌-◌, ◌/◌, ◌%◌, ◌^◌, ◌<◌, ◌≤◌, List, [], ◌∷◌, ◌++◌, arith, take, set, length, append_assoc, add-one}
use Rattle.std.proofs.lemmas.List.{take_more_set}
use Rattle.col_common.specs.VInt.{group_bytes}
use Rattle.col_common.proofs.VIntLemmas.{group_bytes-short, group_bytes-long, higher}

-- what is behind the first group of a number of at most m groups
fewer-groups : (m k n : ℕ) → k + 1 ≡ m → n < 128 ^ m → 128 ≤ n → (0 < k) × (n / 128 < 128 ^ k)
fewer-groups m zero n e h p = let small : n < 128 ^ 1 = rw (← e) at h in absurd (omega (arith, small))
fewer-groups m (suc k) n e h p = let small : n < 128 ^ suc (suc k) = rw (← e, add-one) at h in (omega arith, higher k n small)

first-group : (m k n : ℕ) → k + 1 ≡ m → 128 ≤ n → group_bytes m n ≡ n % 128 ∷ group_bytes k (n / 128)
first-group m k n e p = rw (← e, add-one) (group_bytes-long k n p)

only-group : (m k n : ℕ) → k + 1 ≡ m → n < 128 → group_bytes m n ≡ (n + 128) ∷ []
only-group m k n e p = rw (← e, add-one) (group_bytes-short k n p)

-- the groups that len bytes hold in front, with those of the rest
pub record IsSpelled (len rest : ℕ) (bytes all : List ℕ) : Type 0 where
  pub within : len < 19
  pub few : rest < 128 ^ (19 - len)
  pub so_far : take len bytes ++ group_bytes (19 - len) rest ≡ all

-- a group that isn't the last is put behind those before it, and the rest goes on
pub spelled-more : (len rest : ℕ) (bytes all : List ℕ) → length bytes ≡ 19 → 128 ≤ rest
    → IsSpelled len rest bytes all → IsSpelled (len + 1) (rest / 128) (set bytes len (rest % 128)) all
spelled-more len rest bytes all long p so =
    let fewer = fewer-groups (19 - len) (19 - (len + 1)) rest (omega (arith, so.within)) so.few p in
    let inside : len < length bytes = omega (arith, so.within) in
    record {
      within = omega (arith, fewer.0);
      few = fewer.1;
      so_far =
          rw (take_more_set bytes len (rest % 128) inside, append_assoc)
          (rw (first-group (19 - len) (19 - (len + 1)) rest (omega (arith, so.within)) p) at so.so_far);
    }

-- the last group put behind those before it ends the number
pub spelled-last : (len rest : ℕ) (bytes all : List ℕ) → length bytes ≡ 19 → rest < 128
    → IsSpelled len rest bytes all → take (len + 1) (set bytes len (rest + 128)) ≡ all
spelled-last len rest bytes all long p so =
    let inside : len < length bytes = omega (arith, so.within) in
    rw (take_more_set bytes len (rest + 128) inside) (rw (only-group (19 - len) (18 - len) rest (omega (arith, so.within)) p) at so.so_far)
