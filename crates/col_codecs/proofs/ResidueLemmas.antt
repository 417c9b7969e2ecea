-- The least residue of numbers that rise by equal steps.
use Rattle.std.proofs.Common.{◌≡◌, ℕ, zero, suc, ◌+◌, ◌-◌, ◌*◌, ◌/◌, ◌%◌, ◌<◌, ◌≤◌, min, inl, inr, sym, ap, ◌∙◌, arith}
use Rattle.std.proofs.Math.Nat.{div-add-mod, mod-eq_of_lt, mul-le-mul_left, add-mul-mod_self_left, div-mul-le_self, mul-div-le}
use Rattle.std.proofs.lemmas.Nat.{mod_below, le-div}
use Rattle.std.proofs.lemmas.Bool.{cases_lt, cases_eq}
use Rattle.col_codecs.specs.Residues.{residue, IsLeast}

-- a number by its quotient and its residue
pub parted : (m q r y : ℕ) → y ≡ m * q + r → r < m → y % m ≡ r
parted m q r y e h =
    let turned : m * q + r ≡ r + m * q = omega arith in
    ap (λ k. k % m) (e ∙ turned) ∙ add-mul-mod_self_left r m q ∙ mod-eq_of_lt h

-- numbers that differ by whole counts of m have one residue
pub alike : (m j k a b : ℕ) → a + m * j ≡ b + m * k → a % m ≡ b % m
alike m j k a b e = sym (add-mul-mod_self_left a m j) ∙ ap (λ y. y % m) e ∙ add-mul-mod_self_left b m k

-- ---- no turn

-- where no number reaches the modulus, the offset is the least
pub least-unturned : (m a b n turns : ℕ) → 0 < n → b < m → turns ≡ (a * (n - 1) + b) / m → turns ≡ 0 → IsLeast (residue m a b) n b
least-unturned m a b n turns some h e none =
    let whole = div-add-mod (a * (n - 1) + b) m in
    let zero_turns : (a * (n - 1) + b) / m ≡ 0 = sym e ∙ none in
    let flat : m * ((a * (n - 1) + b) / m) ≡ m * 0 = ap (λ q. m * q) zero_turns in
    let short : a * (n - 1) + b < m = omega (arith, whole, flat, mod_below (a * (n - 1) + b) m (omega arith)) in
    record {
      place = 0;
      within = some;
      there = (let none : a * 0 + b ≡ b = omega arith in ap (λ y. y % m) none ∙ mod-eq_of_lt h);
      below = λ x p. (
          let step : a * x ≤ a * (n - 1) = mul-le-mul_left a (omega arith) in
          let small : a * x + b < m = omega arith in
          let same : (a * x + b) % m ≡ a * x + b = mod-eq_of_lt small in
          omega arith);
    }

-- ---- steps down

-- a residue from the last one on is that of as many steps before the last one
residue-back : (m a b n x : ℕ) → 0 < m → a ≤ m → x < n → residue m (m - a) ((a * (n - 1) + b) % m) x ≡ residue m a b (n - 1 - x)
residue-back m a b n x some le h =
    let last = a * (n - 1) + b in
    let back = n - 1 - x in
    let down = m - a in
    let whole : m * (last / m) + last % m ≡ last = div-add-mod last m in
    let both : (down + a) * x ≡ m * x = let e : down + a ≡ m = omega arith in ap (λ k. k * x) e in
    let steps : a * (back + x) ≡ a * (n - 1) = let e : back + x ≡ n - 1 = omega arith in ap (λ k. a * k) e in
    alike m (last / m) x (down * x + last % m) (a * back + b) (omega (arith, whole, both, steps))

-- the least of them is the same
pub least-back : (m a b n last steps down v : ℕ) → a < m → down ≡ m - a → steps ≡ n - 1
    → last ≡ (a * steps + b) % m → IsLeast (residue m down last) n v → IsLeast (residue m a b) n v
least-back m a b n last steps down v less d s l least =
    let same : (x : ℕ) → x < n → residue m down last x ≡ residue m a b (n - 1 - x) =
    λ x h. rw (d, l, s) (residue-back m a b n x (omega arith) (omega arith) h) in
    record {
      place = n - 1 - least.place;
      within = omega (arith, least.within);
      there = sym (same least.place least.within) ∙ least.there;
      below = λ x h. (
          let mirrored : n - 1 - (n - 1 - x) ≡ x = omega arith in
          let e : residue m down last (n - 1 - x) ≡ residue m a b x = same (n - 1 - x) (omega arith) ∙ ap (residue m a b) mirrored in
          omega (arith, least.below (n - 1 - x) (omega arith), e));
    }

-- ---- turns

-- what is left of the modulus, taken from the factor, makes a whole count of factors with it
back-whole : (m a back : ℕ) → 0 < a → back ≡ (a - m % a) % a → (k : ℕ) × (back + m ≡ a * k)
back-whole m a back some e =
    let whole = div-add-mod m a in
    elim (cases_eq (m % a) 0) [
      | inl z ↦ (let none : back ≡ 0 = e ∙ parted a 1 0 (a - m % a) (omega (arith, z)) some in
          (m / a, omega (arith, none, whole, z)))
      | inr nz ↦ (let short : back ≡ a - m % a = e ∙ mod-eq_of_lt (omega arith) in
          let less = mod_below m a some in
          (m / a + 1, omega (arith, short, whole, less)))
    ]

module _ (m a b n back : ℕ) (positive : 0 < a) (short : a ≤ m) (small : b < m) (is : back ≡ (a - m % a) % a) where
  -- the number at a turn has the same residue of the factor as the turn's own number
  turn-alike : (x q r : ℕ) → a * x + b ≡ m * suc q + r → r % a ≡ residue a back ((b + back) % a) q
  turn-alike x q r e =
      let w = back-whole m a back positive is in
      let grown : (back + m) * suc q ≡ a * w.0 * suc q = ap (λ k. k * suc q) w.1 in
      let first = div-add-mod (b + back) a in
      alike a (w.0 * suc q) (x + (b + back) / a) r (back * q + (b + back) % a) (omega (arith, grown, e, first))

  -- no residue is below the offset and the least at the turns
  turned-below : (turns low : ℕ) → turns ≡ (a * (n - 1) + b) / m → IsLeast (residue a back ((b + back) % a)) turns low
      → (x : ℕ) → x < n → min b low ≤ residue m a b x
  turned-below turns low t least x h =
      let y = a * x + b in
      let whole : m * (y / m) + y % m ≡ y = div-add-mod y m in
      let step : a * x ≤ a * (n - 1) = mul-le-mul_left a (omega arith) in
      by-turn (y / m) whole (div-le y (a * (n - 1) + b) (omega arith))
    where
      div-le : (j k : ℕ) → j ≤ k → j / m ≤ k / m
      div-le j k g = le-div (j / m) k m (omega arith) (omega (arith, div-mul-le_self j m))

      by-turn : (q : ℕ) → m * q + (a * x + b) % m ≡ a * x + b → q ≤ (a * (n - 1) + b) / m → min b low ≤ (a * x + b) % m
      by-turn zero e q = omega (arith, e)
      by-turn (suc q) e g =
          let r = (a * x + b) % m in
          let same = turn-alike x q r (sym e) in
          let part : r % a ≤ r = omega (arith, div-add-mod r a) in
          omega (arith, least.below q (omega arith), same, part)

  -- the number of a turn is a residue
  turn-there : (turns q : ℕ) → turns ≡ (a * (n - 1) + b) / m → q < turns → 0 < n
      → (x : ℕ) × (x < n) × (residue m a b x ≡ residue a back ((b + back) % a) q)
  turn-there turns q t h some =
      let w = back-whole m a back positive is in
      let r = residue a back ((b + back) % a) q in
      let inner = back * q + (b + back) % a in
      let whole : a * (inner / a) + r ≡ inner = div-add-mod inner a in
      let first : a * ((b + back) / a) + (b + back) % a ≡ b + back = div-add-mod (b + back) a in
      let less : r < a = mod_below inner a positive in
      let grown : (back + m) * suc q ≡ a * w.0 * suc q = ap (λ k. k * suc q) w.1 in
      let past = inner / a + (b + back) / a in
      let many = w.0 * suc q in
      let sum : a * past + (m * suc q + r) ≡ a * many + b = omega (arith, whole, first, grown) in
      let rise : m * 1 ≤ m * suc q = mul-le-mul_left m (omega arith) in
      let fits : past ≤ many =
      elim (cases_lt many past) [
        | inl over ↦ absurd (let more : a * many ≤ a * past = mul-le-mul_left a (omega arith) in omega (arith, more, sum, rise))
        | inr k ↦ k
      ] in
      let x = many - past in
      let times : a * (x + past) ≡ a * many = let e : x + past ≡ many = omega arith in ap (λ k. a * k) e in
      let at : a * x + b ≡ m * suc q + r = omega (arith, times, sum) in
      let reached : m * suc q ≤ m * ((a * (n - 1) + b) / m) = mul-le-mul_left m (omega arith) in
      let top : m * ((a * (n - 1) + b) / m) ≤ a * (n - 1) + b = mul-div-le (a * (n - 1) + b) m in
      let within : x < n =
      elim (cases_lt x n) [
        | inl k ↦ k
        | inr over ↦ absurd (let far : a * n ≤ a * x = mul-le-mul_left a over in
            let last : a * (n - 1 + 1) ≡ a * n = let e : n - 1 + 1 ≡ n = omega arith in ap (λ k. a * k) e in
            omega (arith, far, last, at, reached, top, less))
      ] in
      (x, within, parted m (suc q) r (a * x + b) at (omega arith))

  -- the least is the offset, or the least of the numbers at the turns
  pub least-turned : (turns low : ℕ) → 0 < n → turns ≡ (a * (n - 1) + b) / m
      → IsLeast (residue a back ((b + back) % a)) turns low → IsLeast (residue m a b) n (min b low)
  least-turned turns low some t least =
      let there = turn-there turns least.place t least.within some in
      elim (cases_lt low b) [
        | inl under ↦ record {
          place = there.0;
          within = there.1;
          there = there.2 ∙ least.there ∙ (let e : low ≡ min b low = omega arith in e);
          below = turned-below turns low t least;
        }
        | inr upto ↦ record {
          place = 0;
          within = some;
          there = (let none : a * 0 + b ≡ b = omega arith in ap (λ y. y % m) none ∙ mod-eq_of_lt small
              ∙ (let e : b ≡ min b low = omega arith in e));
          below = turned-below turns low t least;
        }
      ]

-- where there is a turn, numbers rise
pub turned-rises : (m a b steps : ℕ) → b < m → 0 < (a * steps + b) / m → 0 < a
turned-rises m a b steps h turned =
    elim (cases_lt 0 a) [
      | inl k ↦ k
      | inr none ↦ absurd (let flat : a * steps ≡ 0 * steps = let e : a ≡ 0 = omega arith in ap (λ k. k * steps) e in
          let top = mul-div-le (a * steps + b) m in
          let one : m * 1 ≤ m * ((a * steps + b) / m) = mul-le-mul_left m (omega arith) in
          omega (arith, flat, top, one))
    ]
