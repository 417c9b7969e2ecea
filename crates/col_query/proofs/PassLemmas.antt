-- The numbers from a place on that pass a test.
use Rattle.std.proofs.Common.{◌≡◌, ℕ, zero, suc, ◌+◌, ◌-◌, ◌<◌, ◌≤◌, Bool, true, false, cond, ◌&&◌, ◌||◌, List, [], ◌∷◌, get_or, drop, refl, ap, sym, ◌∙◌, subst, arith, eqb, eq-eqb, inl, inr, ◌⊎◌}
use Rattle.std.specs.List.{range_with_len, filter, list_any}
use Rattle.std.proofs.lemmas.Bool.{cases_eq, ne_eqb}

-- one filter behind another
pub pass_both : (test other : ℕ → Bool) (xs : List ℕ) → filter other (filter test xs) ≡ filter (λ d. test d && other d) xs
pass_both test other [] = refl
pass_both test other (x ∷ xs) = by (test x) (pass_both test other xs)
  where
    by : (b : Bool) → filter other (filter test xs) ≡ filter (λ d. test d && other d) xs
        → filter other (cond b (x ∷ filter test xs) (filter test xs))
        ≡ cond (b && other x) (x ∷ filter (λ d. test d && other d) xs) (filter (λ d. test d && other d) xs)
    by true e = ap (λ ys. cond (other x) (x ∷ ys) ys) e
    by false e = e

-- the numbers from a place up to n that pass
abbrev pub rest_of : (ℕ → Bool) → ℕ → ℕ → List ℕ
rest_of test n m = filter test (range_with_len m (n - m))

-- a place at which the test is known
pub rest_more : (test : ℕ → Bool) (n m : ℕ) → m < n → rest_of test n m ≡ cond (test m) (m ∷ rest_of test n (m + 1)) (rest_of test n (m + 1))
rest_more test n m h =
    let more : n - m ≡ suc (n - (m + 1)) = omega arith in
    ap (λ k. filter test (range_with_len m k)) more

-- places that are passed over
pub rest_skip : (test : ℕ → Bool) (n m k low : ℕ) → m + k ≡ low → low ≤ n
    → ((d : ℕ) → m ≤ d → d < low → test d ≡ false) → rest_of test n m ≡ rest_of test n low
rest_skip test n m zero low e within h = let same : m ≡ low = omega arith in ap (rest_of test n) same
rest_skip test n m (suc k) low e within h =
    let rest = rest_of test n (m + 1) in
    rest_more test n m (omega arith)
    ∙ (ap (λ b. cond b (m ∷ rest) rest) (h m (omega arith) (omega arith))
    ∙ rest_skip test n (m + 1) k low (omega arith) within (λ d p q. h d (omega arith) q))

-- The first number of a list, which is a limit where there is none, is the first that passes.
pub record IsFront (test : ℕ → Bool) (n m limit : ℕ) (xs : List ℕ) : Type 0 where
  pub above : m ≤ get_or xs 0 limit
  pub before : (d : ℕ) → m ≤ d → d < get_or xs 0 limit → d < n → test d ≡ false
  pub here : get_or xs 0 limit < limit → test (get_or xs 0 limit) ≡ true
  pub within : get_or xs 0 limit < limit → get_or xs 0 limit < n
  pub next : get_or xs 0 limit < limit → drop 1 xs ≡ rest_of test n (get_or xs 0 limit + 1)

front_none : (test : ℕ → Bool) (n m limit : ℕ) → n ≤ m → m ≤ limit → IsFront test n m limit []
front_none test n m limit past h = record {
  above = h;
  before = λ d p q r. absurd (omega arith);
  here = λ p. absurd (omega arith);
  within = λ p. absurd (omega arith);
  next = λ p. absurd (omega arith);
}

front_here : (test : ℕ → Bool) (n m limit : ℕ) → m < n → n ≤ limit → test m ≡ true
    → IsFront test n m limit (m ∷ rest_of test n (m + 1))
front_here test n m limit h fits one = record {
  above = omega arith;
  before = λ d p q r. absurd (omega arith);
  here = λ p. one;
  within = λ p. h;
  next = λ p. refl;
}

front_later : (test : ℕ → Bool) (n m limit : ℕ) (xs : List ℕ) → test m ≡ false → IsFront test n (m + 1) limit xs
    → IsFront test n m limit xs
front_later test n m limit xs none f = record {
  above = omega (arith, f.above);
  before = λ d p q r. by d p q r (cases_eq d m);
  here = f.here;
  within = f.within;
  next = f.next;
}
  where
    by : (d : ℕ) → m ≤ d → d < get_or xs 0 limit → d < n → (d ≡ m) ⊎ (d ≡ m → ⊥) → test d ≡ false
    by d p q r (inl same) = ap test same ∙ none
    by d p q r (inr other) = f.before d (omega arith) q r

front_from : (test : ℕ → Bool) (n limit k m : ℕ) → m + k ≡ n → n ≤ limit → IsFront test n m limit (filter test (range_with_len m k))
front_from test n limit zero m e fits = front_none test n m limit (omega arith) (omega arith)
front_from test n limit (suc k) m e fits = by (test m) refl (front_from test n limit k (m + 1) (omega arith) fits)
  where
    long : k ≡ n - (m + 1)
    long = omega arith

    by : (b : Bool) → test m ≡ b → IsFront test n (m + 1) limit (filter test (range_with_len (m + 1) k))
        → IsFront test n m limit (cond b (m ∷ filter test (range_with_len (m + 1) k)) (filter test (range_with_len (m + 1) k)))
    by true one later =
        let P : ℕ → Type 0 = λ j. IsFront test n m limit (m ∷ filter test (range_with_len (m + 1) j)) in
        subst P (sym long) (front_here test n m limit (omega arith) fits one)
    by false none later = front_later test n m limit (filter test (range_with_len (m + 1) k)) none later

-- what is left from a place on begins with the first number that passes
pub front_of : (test : ℕ → Bool) (n m limit : ℕ) (xs : List ℕ) → m ≤ n → n ≤ limit → xs ≡ rest_of test n m → IsFront test n m limit xs
front_of test n m limit xs within fits e =
    let P : List ℕ → Type 0 = IsFront test n m limit in
    subst P (sym e) (front_from test n limit (n - m) m (omega arith) fits)

-- no number below the first is among those that pass
past_pass : (test : ℕ → Bool) (a n d : ℕ) → d < a → list_any (λ k. eqb d k) (filter test (range_with_len a n)) ≡ false
past_pass test a zero d h = refl
past_pass test a (suc n) d h = by (test a) (past_pass test (a + 1) n d (omega arith))
  where
    by : (b : Bool) → list_any (λ k. eqb d k) (filter test (range_with_len (a + 1) n)) ≡ false
        → list_any (λ k. eqb d k)
        (cond b (a ∷ filter test (range_with_len (a + 1) n)) (filter test (range_with_len (a + 1) n))) ≡ false
    by true e = ap (λ c. c || list_any (λ k. eqb d k) (filter test (range_with_len (a + 1) n))) (ne_eqb d a (omega arith)) ∙ e
    by false e = e

-- the first number, and those behind it
among_more : (test : ℕ → Bool) (a n d : ℕ) → a ≤ d → d < a + suc n → (d ≡ a) ⊎ (d ≡ a → ⊥)
    → (a + 1 ≤ d → list_any (λ k. eqb d k) (filter test (range_with_len (a + 1) n)) ≡ test d)
    → list_any (λ k. eqb d k) (filter test (range_with_len a (suc n))) ≡ test d
among_more test a n d p q (inl same) later = here (test a) refl
  where
    here : (b : Bool) → test a ≡ b → list_any (λ k. eqb d k)
        (cond b (a ∷ filter test (range_with_len (a + 1) n)) (filter test (range_with_len (a + 1) n))) ≡ test d
    here true one =
        ap (λ c. c || list_any (λ k. eqb d k) (filter test (range_with_len (a + 1) n))) (eq-eqb d a same)
        ∙ sym (ap test same ∙ one)
    here false none = past_pass test (a + 1) n d (omega arith) ∙ sym (ap test same ∙ none)
among_more test a n d p q (inr other) later = behind (test a) (later (omega arith))
  where
    behind : (b : Bool) → list_any (λ k. eqb d k) (filter test (range_with_len (a + 1) n)) ≡ test d
        → list_any (λ k. eqb d k)
        (cond b (a ∷ filter test (range_with_len (a + 1) n)) (filter test (range_with_len (a + 1) n))) ≡ test d
    behind true e =
        ap (λ c. c || list_any (λ k. eqb d k) (filter test (range_with_len (a + 1) n))) (ne_eqb d a other) ∙ e
    behind false e = e

-- a number is among those that pass exactly if it passes
pub among_pass : (test : ℕ → Bool) (a n d : ℕ) → a ≤ d → d < a + n → list_any (λ k. eqb d k) (filter test (range_with_len a n)) ≡ test d
among_pass test a zero d p q = absurd (omega arith)
among_pass test a (suc n) d p q = among_more test a n d p q (cases_eq d a) (λ r. among_pass test (a + 1) n d r (omega arith))
