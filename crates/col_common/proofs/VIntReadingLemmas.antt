-- For a reader of numbers that goes from the last byte back.
use Rattle.std.proofs.Common.{◌≡◌, ℕ, zero, suc, ◌+◌, ◌-◌, ◌*◌, ◌^◌, ◌<◌, ◌≤◌, inl, inr, List, [], ◌∷◌, Some, None, refl, ◌∙◌, ap, arith, pow-suc, slice_index, min, take, drop, length, drop-cons, add-one, Option}
use Rattle.std.proofs.lemmas.Option.{none-some}
use Rattle.std.proofs.lemmas.Bool.{lt-ltb, le-ltb, cases_lt}
use Rattle.std.proofs.lemmas.List.{take_rest}
use Rattle.col_common.specs.VInt.{groups, vint_u128, GoesOn}
use Rattle.col_common.proofs.VIntLemmas.{groups-last, groups-more, more-parts}

-- from place i on the bytes have the number v, which isn't 0: then from the front on they have one that is no less
groups-front : (bytes : List ℕ) (i v : ℕ) (rest : List ℕ) → i ≤ length bytes → GoesOn bytes i → 0 < v
    → groups (drop i bytes) ≡ Some (v, rest) → (n : ℕ) × (v ≤ n) × (groups bytes ≡ Some (n, rest))
groups-front bytes zero v rest h on p e = (v, omega arith, e)
groups-front [] (suc i) v rest h on p e = absurd (omega arith)
groups-front (b ∷ bytes) (suc i) v rest h on p e =
    let later = groups-front bytes i v rest (omega arith) (λ k q. on (suc k) (omega arith)) p e in
    (b + 128 * later.0, omega (arith, later.1), groups-more b later.0 bytes rest (on 0 (omega arith)) (omega (arith, later.1)) later.2)

-- where the first k bytes go on, a number that isn't 0 has at least 128 ^ k
groups-long : (bytes : List ℕ) (k n : ℕ) (rest : List ℕ) → GoesOn bytes k → 0 < n → groups bytes ≡ Some (n, rest) → 128 ^ k ≤ n
unfolding groups
groups-long bytes zero n rest on p e = omega arith
groups-long [] (suc k) n rest on p e = absurd (none-some (n, rest) e)
groups-long (b ∷ bytes) (suc k) n rest on p e =
    let x = more-parts b bytes n rest (on 0 (omega arith)) e in
    let later = groups-long bytes k x.0 rest (λ j q. on (suc j) (omega arith)) x.1 x.2 in
    rw (pow-suc 128 k) (omega (arith, later, x.3))

-- the bytes from place i on
groups-at_last : (bytes : List ℕ) (i : ℕ) → i < length bytes → 128 ≤ slice_index bytes i
    → groups (drop i bytes) ≡ Some (slice_index bytes i - 128, drop (i + 1) bytes)
groups-at_last bytes i h p = rw (drop-cons bytes i 0 h, add-one) (groups-last (slice_index bytes i) (drop (suc i) bytes) p)

groups-at_more : (bytes : List ℕ) (i high : ℕ) (rest : List ℕ) → i < length bytes → slice_index bytes i < 128
    → 0 < high → groups (drop (i + 1) bytes) ≡ Some (high, rest)
    → groups (drop i bytes) ≡ Some (slice_index bytes i + 128 * high, rest)
groups-at_more bytes i high rest h p q e =
    rw (drop-cons bytes i 0 h)
    (groups-more (slice_index bytes i) high (drop (suc i) bytes) rest p q (rw add-one at e))

-- groups that stand for 0 behind another byte are no form
groups-zero : (bytes : List ℕ) (i : ℕ) (rest : List ℕ) → i < length bytes → GoesOn bytes (suc i)
    → groups (drop (suc i) bytes) ≡ Some (0, rest) → groups bytes ≡ None
unfolding groups
groups-zero [] i rest h on e = absurd (omega arith)
groups-zero (b ∷ bytes) zero rest h on e = rw (lt-ltb b 128 (on 0 (omega arith)), e)
groups-zero (b ∷ bytes) (suc i) rest h on e =
    rw
    (lt-ltb b 128 (on 0 (omega arith)), groups-zero bytes i rest (omega arith) (λ k q. on (suc k) (omega arith)) e)

-- bytes that all go on are no form
groups-endless : (bytes : List ℕ) → GoesOn bytes (length bytes) → groups bytes ≡ None
unfolding groups
groups-endless [] on = refl
groups-endless (b ∷ bytes) on = rw (lt-ltb b 128 (on 0 (omega arith)), groups-endless bytes (λ k q. on (suc k) (omega arith)))

vint_u128-some : (bytes : List ℕ) (n : ℕ) (rest : List ℕ) → n < 2 ^ 128 → groups bytes ≡ Some (n, rest) → vint_u128 bytes ≡ Some (n, rest)
vint_u128-some bytes n rest h e = rw (e, lt-ltb n (2 ^ 128) h)

vint_u128-too_large : (bytes : List ℕ) (n : ℕ) (rest : List ℕ) → 2 ^ 128 ≤ n → groups bytes ≡ Some (n, rest) → vint_u128 bytes ≡ None
vint_u128-too_large bytes n rest h e = rw (e, le-ltb n (2 ^ 128) h)

vint_u128-none : (bytes : List ℕ) → groups bytes ≡ None → vint_u128 bytes ≡ None
vint_u128-none bytes e = rw e

-- a number whose first byte goes on isn't 0
groups-positive : (bytes : List ℕ) (n : ℕ) (rest : List ℕ) → GoesOn bytes 1 → groups bytes ≡ Some (n, rest) → 0 < n
unfolding groups
groups-positive [] n rest on e = absurd (none-some (n, rest) e)
groups-positive (b ∷ bytes) n rest on e = let x = more-parts b bytes n rest (on 0 (omega arith)) e in omega (arith, x.1, x.3)

long-case : (bytes : List ℕ) (o : Option (ℕ × List ℕ)) → GoesOn bytes 19 → groups bytes ≡ o → vint_u128 bytes ≡ None
long-case bytes None on e = vint_u128-none bytes e
long-case bytes (Some x) on e =
    let positive = groups-positive bytes x.0 x.1 (λ k q. on k (omega arith)) e in
    vint_u128-too_large bytes x.0 x.1 (omega (arith, groups-long bytes 19 x.0 x.1 on positive e)) e

-- nineteen bytes that go on are too many
pub vint_u128-long : (bytes : List ℕ) → GoesOn bytes (min 19 (length bytes)) → vint_u128 bytes ≡ None
vint_u128-long bytes on =
    elim (cases_lt (length bytes) 19) [
      | inl p ↦ vint_u128-none bytes (groups-endless bytes (λ k q. on k (omega arith)))
      | inr p ↦ long-case bytes (groups bytes) (λ k q. on k (omega arith)) refl
    ]

-- groups that stand for 0 behind others are no form
pub vint_u128-zero_behind : (bytes : List ℕ) (i : ℕ) → 0 < i → i < length bytes → GoesOn bytes i
    → slice_index bytes i ≡ 128 → vint_u128 bytes ≡ None
vint_u128-zero_behind bytes zero p h on e = absurd (omega arith)
vint_u128-zero_behind bytes (suc i) p h on e =
    vint_u128-none bytes (groups-zero bytes i (drop (suc i + 1) bytes) (omega arith) on
    (groups-at_last bytes (suc i) h (omega arith) ∙ ap (λ n. Some (n, drop (suc i + 1) bytes)) (omega arith)))

-- from the index on the bytes up to the last group have the value, which isn't 0 unless it has one byte
pub record IsRead (bytes : List ℕ) (last index value : ℕ) : Type 0 where
  pub within : index ≤ last
  pub positive : 0 < last → 0 < value
  pub so_far : groups (drop index bytes) ≡ Some (value, drop (last + 1) bytes)

-- the last group of a number is read as its value, which is 0 only where it is the only one
pub read-last : (bytes : List ℕ) (last value : ℕ) → last < length bytes → 128 ≤ slice_index bytes last
    → value ≡ slice_index bytes last - 128 → (0 < last → 0 < value) → IsRead bytes last last value
read-last bytes last value h p e positive = record {
  within = omega arith;
  positive = positive;
  so_far = rw e (groups-at_last bytes last h p);
}

-- a group before those that were read adds its value below theirs
pub read-more : (bytes : List ℕ) (last i j value more : ℕ) → i + 1 ≡ j → last < length bytes → GoesOn bytes last
    → more ≡ value * 128 + slice_index bytes i → IsRead bytes last j value → IsRead bytes last i more
read-more bytes last i j value more e h on sum so =
    let positive = so.positive (omega (arith, so.within)) in
    let behind : groups (drop (i + 1) bytes) ≡ Some (value, drop (last + 1) bytes) = rw e so.so_far in
    record {
      within = omega (arith, so.within);
      positive = λ _. omega arith;
      so_far =
          groups-at_more bytes i value (drop (last + 1) bytes) (omega (arith, so.within))
          (on i (omega (arith, so.within))) positive behind
          ∙ ap (λ n. Some (n, drop (last + 1) bytes)) (omega arith);
    }

-- a number past 2 ^ 128 at a place is one at the front
pub read-past : (bytes : List ℕ) (last i j value : ℕ) → i + 1 ≡ j → last < length bytes → GoesOn bytes last
    → 2 ^ 128 ≤ value * 128 + slice_index bytes i → IsRead bytes last j value → vint_u128 bytes ≡ None
read-past bytes last i j value e h on p so =
    let more = read-more bytes last i j value _ e h on refl so in
    let front = groups-front bytes i _ _ (omega (arith, more.within)) (λ k q. on k (omega (arith, more.within)))
    (omega arith) more.so_far in
    vint_u128-too_large bytes front.0 _ (omega (arith, front.1)) front.2

-- the number at the front
pub read-whole : (bytes : List ℕ) (last i value : ℕ) → i ≡ 0 → value < 2 ^ 128 → IsRead bytes last i value
    → vint_u128 bytes ≡ Some (value, take (length bytes - (last + 1)) (drop (last + 1) bytes))
read-whole bytes last i value e h so =
    rw (take_rest bytes (last + 1)) (vint_u128-some bytes value (drop (last + 1) bytes) h (rw e at so.so_far))
