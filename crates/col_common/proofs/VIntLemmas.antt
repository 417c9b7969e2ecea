-- Each number has one form, and is read back from it, whatever follows.
use Rattle.std.proofs.Common.{◌≡◌, ℕ, zero, suc, ◌+◌, ◌-◌, ◌*◌, ◌/◌, ◌%◌, ◌^◌, ◌<◌, ◌≤◌, inl, inr, List, [], ◌∷◌, ◌++◌, Some, nat_lt, nat_le, sym, ◌∙◌, ap, arith, pow-suc, add-sub_cancel, subst}
use Rattle.std.proofs.lemmas.Option.{option_and_then_some, none-some, same_Some, cond_some}
use native.Mathlib.Nat.{mod-add-div}
use Rattle.std.proofs.lemmas.Bool.{lt-ltb, le-ltb, le-leb, ltb-true, leb-true, cases_lt}
use Rattle.std.proofs.lemmas.Nat.{div_below}
use Rattle.col_common.specs.Reading.{IsBytes, only_if}
use Rattle.col_common.specs.VInt.{groups, group_bytes, vint, vint_u128, vint_bytes}

-- a byte from 128 on is the last
pub groups-last : (b : ℕ) (bytes : List ℕ) → 128 ≤ b → groups (b ∷ bytes) ≡ Some (b - 128, bytes)
unfolding groups
groups-last b bytes h = rw (le-ltb b 128 h)

-- a byte below 128 goes on
pub groups-more : (b high : ℕ) (bytes rest : List ℕ) → b < 128 → 0 < high → groups bytes ≡ Some (high, rest)
    → groups (b ∷ bytes) ≡ Some (b + 128 * high, rest)
unfolding groups
groups-more b high bytes rest p q e = rw (lt-ltb b 128 p, e, le-leb 1 high (omega arith))

-- a number below 128 is one group, which ends it
pub group_bytes-short : (k n : ℕ) → n < 128 → group_bytes (suc k) n ≡ (n + 128) ∷ []
unfolding group_bytes
group_bytes-short k n h = rw (lt-ltb n 128 h)

-- a number from 128 on is its lowest group, and the groups of what is above
pub group_bytes-long : (k n : ℕ) → 128 ≤ n → group_bytes (suc k) n ≡ n % 128 ∷ group_bytes k (n / 128)
unfolding group_bytes
group_bytes-long k n h = rw (le-ltb n 128 h)

short-form : (k n : ℕ) (rest : List ℕ) → n < 128 → groups (group_bytes (suc k) n ++ rest) ≡ Some (n, rest)
short-form k n rest p = rw (group_bytes-short k n p, groups-last (n + 128) rest (omega arith), add-sub_cancel)

long-form : (k n : ℕ) (rest : List ℕ) → 128 ≤ n
    → groups (group_bytes (suc k) (n / 128) ++ rest) ≡ Some (n / 128, rest)
    → groups (group_bytes (suc (suc k)) n ++ rest) ≡ Some (n, rest)
long-form k n rest p e =
    rw (group_bytes-long (suc k) n p) (groups-more (n % 128) (n / 128) _ rest (omega arith) (omega arith) e
    ∙ ap (λ m. Some (m, rest)) (mod-add-div n 128))

-- what is above the lowest of a number's groups takes one group less
pub higher : (k n : ℕ) → n < 128 ^ suc (suc k) → n / 128 < 128 ^ suc k
higher k n h = div_below n 128 (128 ^ suc k) (omega arith) (rw (pow-suc 128 (suc k)) at h)

-- the form of a number of at most k + 1 groups is read back, whatever follows
pub groups-group_bytes : (k n : ℕ) (rest : List ℕ) → n < 128 ^ suc k → groups (group_bytes (suc k) n ++ rest) ≡ Some (n, rest)
groups-group_bytes zero n rest h = short-form zero n rest h
groups-group_bytes (suc k) n rest h =
    elim (cases_lt n 128) [
      | inl p ↦ short-form (suc k) n rest p
      | inr p ↦ long-form k n rest p (groups-group_bytes k (n / 128) rest (higher k n h))
    ]

-- a number below 2 ^ 64 is read back from its form, whatever follows
pub vint-vint_bytes : (n : ℕ) (rest : List ℕ) → n < 2 ^ 64 → vint (vint_bytes n ++ rest) ≡ Some (n, rest)
vint-vint_bytes n rest h = rw (groups-group_bytes 18 n rest (omega arith), lt-ltb n (2 ^ 64) h)

-- the same below 2 ^ 128
pub vint_u128-vint_bytes : (n : ℕ) (rest : List ℕ) → n < 2 ^ 128 → vint_u128 (vint_bytes n ++ rest) ≡ Some (n, rest)
vint_u128-vint_bytes n rest h = rw (groups-group_bytes 18 n rest (omega arith), lt-ltb n (2 ^ 128) h)

-- what is read of a byte below 128
pub more-parts : (c : ℕ) (bytes : List ℕ) (n : ℕ) (rest : List ℕ) → c < 128 → groups (c ∷ bytes) ≡ Some (n, rest)
    → (high : ℕ) × (0 < high) × (groups bytes ≡ Some (high, rest)) × (n ≡ c + 128 * high)
unfolding groups
more-parts c bytes n rest p e =
    option_and_then_some (λ high. only_if (nat_le 1 high.0) (c + 128 * high.0, high.1)) (groups bytes) (n, rest)
    (rw (lt-ltb c 128 p) at e) (λ x o f.
    let parts = cond_some (nat_le 1 x.0) (c + 128 * x.0, x.1) (n, rest) f in
    let positive : 0 < x.0 = omega (arith, leb-true 1 x.0 parts.0) in
    (x.0, positive, o ∙ ap (λ r. Some (x.0, r)) (ap (λ q. q.1) parts.1), sym (ap (λ q. q.0) parts.1)))

last-parts : (c : ℕ) (bytes : List ℕ) (n : ℕ) (rest : List ℕ) → 128 ≤ c → groups (c ∷ bytes) ≡ Some (n, rest)
    → (n ≡ c - 128) × (bytes ≡ rest)
last-parts c bytes n rest p e = let q = same_Some _ _ (sym (groups-last c bytes p) ∙ e) in (sym (ap (λ q. q.0) q), ap (λ q. q.1) q)

later_bytes : (c : ℕ) (bytes : List ℕ) → IsBytes (c ∷ bytes) → IsBytes bytes
later_bytes c bytes b i = b (suc i)

-- the two cases of a first byte
last-spelled : (c k n : ℕ) (rest : List ℕ) → c < 256 → 128 ≤ c → n ≡ c - 128 → c ∷ rest ≡ group_bytes (suc k) n ++ rest
last-spelled c k n rest b p e = rw (group_bytes-short k n (omega arith)) (ap (λ d. d ∷ rest) (omega arith))

more-spelled : (c k n high : ℕ) (bytes rest : List ℕ) → c < 128 → 0 < high → n ≡ c + 128 * high
    → bytes ≡ group_bytes (suc k) high ++ rest → c ∷ bytes ≡ group_bytes (suc (suc k)) n ++ rest
more-spelled c k n high bytes rest p q e later =
    let low : n % 128 ≡ c = omega arith in
    let up : n / 128 ≡ high = omega arith in
    rw (group_bytes-long (suc k) n (omega arith), low, up) (ap (λ r. c ∷ r) later)

-- what is read is spelled so
pub group_bytes-groups : (bytes : List ℕ) (k n : ℕ) (rest : List ℕ) → IsBytes bytes → n < 128 ^ suc k
    → groups bytes ≡ Some (n, rest) → bytes ≡ group_bytes (suc k) n ++ rest
unfolding groups
group_bytes-groups [] k n rest b h e = absurd (none-some (n, rest) e)
group_bytes-groups (c ∷ bytes) zero n rest b h e =
    elim (cases_lt c 128) [
      | inl p ↦ let x = more-parts c bytes n rest p e in absurd (omega (arith, h, x.1, x.3))
      | inr p ↦ let x = last-parts c bytes n rest p e in rw (x.1) (last-spelled c 0 n rest (b 0) p x.0)
    ]
group_bytes-groups (c ∷ bytes) (suc k) n rest b h e =
    elim (cases_lt c 128) [
      | inl p ↦ let x = more-parts c bytes n rest p e in
          let less : x.0 < 128 ^ suc k = omega (arith, higher k n h, x.3) in
          more-spelled c k n x.0 bytes rest p x.1 x.3 (group_bytes-groups bytes k x.0 rest (later_bytes c bytes b) less x.2)
      | inr p ↦ let x = last-parts c bytes n rest p e in rw (x.1) (last-spelled c (suc k) n rest (b 0) p x.0)
    ]

-- a number below 2 ^ 64 that is read has its one form at the front
pub vint_bytes-vint : (bytes : List ℕ) (n : ℕ) (rest : List ℕ) → IsBytes bytes → vint bytes ≡ Some (n, rest) → bytes ≡ vint_bytes n ++ rest
vint_bytes-vint bytes n rest b e =
    option_and_then_some (λ p. only_if (nat_lt p.0 (2 ^ 64)) p) (groups bytes) (n, rest) e (λ x o f.
    let parts = cond_some (nat_lt x.0 (2 ^ 64)) x (n, rest) f in
    let less : n < 2 ^ 64 = subst (λ q. q.0 < 2 ^ 64) parts.1 (ltb-true x.0 (2 ^ 64) parts.0) in
    group_bytes-groups bytes 18 n rest b (omega arith) (o ∙ ap Some parts.1))
