-- Lists of numbers seen as values of a type.
use Rattle.std.proofs.Common.{◌≡◌, ℕ, ◌<◌, ◌^◌, Bool, false, List, [], length, map, Contains, Option, sym, ap, ◌∙◌, subst, arith}
use Rattle.std.specs.List.{All}
use Rattle.std.specs.Ordering.{is_some_and, is_le, partial_le}
use Rattle.std.specs.declared.cmp.Ordering.{Ordering}
use Rattle.std.proofs.Math.ListN.{get_or-map}
use Rattle.std.proofs.lemmas.Bool.{and_parts}
use Rattle.std.proofs.lemmas.Bool.Decides.{nat_tests}
use Rattle.std.proofs.lemmas.List.{length-map}
use Rattle.std.proofs.lemmas.List.Elements.{All-map, All-contains}
use Rattle.col_model.specs.Stats.{least_of, greatest_of}
use Rattle.col_values.specs.Values.{IsAtMost, hits_between}
use Rattle.col_values.specs.Codes.{IsCoded, number_cmp, is_below}
use Rattle.col_values.specs.Monotonic.{Passes, IsMonotonic}
use Rattle.col_values.proofs.HitLemmas.{no_lower, no_upper, moved_ends}
use Rattle.col_numbers.specs.Views.{is_seen, IsLeastOf, IsGreatestOf}
use Rattle.col_numbers.proofs.ImageLemmas.{least-in, greatest-in}

below : (limit n : ℕ) → Passes (is_below limit) n → n < limit
below limit n h = grind (arith, nat_tests)

-- what a number is seen as is one of what the numbers are seen as
contains_seen : {X : Type 0} (f : ℕ → X) (ns : List ℕ) (n : ℕ) → Contains ns n → Contains (map f ns) (f n)
contains_seen f ns n (i, within, is) = (i, omega (arith, within, length-map ns f), get_or-map f ns i n ∙ ap f is)

module _ {X : Type 0} {cmp : X → X → Option Ordering} {in_type : X → Bool} {code : X → ℕ} {value : ℕ → X} {is_code : ℕ
    → Bool} (laws : IsCoded (2 ^ 64) cmp in_type code value is_code) {is_in : ℕ → Bool} {there back : ℕ
    → ℕ} (keeps : IsMonotonic number_cmp number_cmp is_in there back) where
  in_domain : (n : ℕ) → Passes (is_seen is_in there is_code) n → Passes is_in n
  in_domain n h = (and_parts _ _ h).0

  is_coded : (n : ℕ) → Passes (is_seen is_in there is_code) n → Passes is_code (there n)
  is_coded n h = (and_parts _ _ (and_parts _ _ h).1).1

  fits : (n : ℕ) → Passes (is_seen is_in there is_code) n → there n < 2 ^ 64
  fits n h = below (2 ^ 64) (there n) (and_parts _ _ (and_parts _ _ h).1).0

  known : (n : ℕ) → Passes (is_seen is_in there is_code) n → Passes in_type (value (there n))
  known n h = laws.known (there n) (fits n h) (is_coded n h)

  again : (n : ℕ) → Passes (is_seen is_in there is_code) n → code (value (there n)) ≡ there n
  again n h = laws.again (there n) (fits n h) (is_coded n h)

  compares : (m n : ℕ) → Passes (is_seen is_in there is_code) m → Passes (is_seen is_in there is_code) n
      → cmp (value (there m)) (value (there n)) ≡ number_cmp m n
  compares m n h k =
      sym (laws.compares (value (there m)) (value (there n)) (known m h) (known n k))
      ∙ (λ i. number_cmp (again m h i) (again n k i))
      ∙ keeps.compares m n (in_domain m h) (in_domain n k)

  -- each value is one of the type
  pub all_known : (ns : List ℕ) → All (Passes (is_seen is_in there is_code)) ns → All (Passes in_type) (map (λ n. value (there n)) ns)
  all_known ns all = All-map (Passes in_type) (λ n. value (there n)) ns (λ k d within. known _ (all k d within))

  -- the least of numbers that can be seen can be seen
  pub least_is_seen : (ns : List ℕ) (least : ℕ) → All (Passes (is_seen is_in there is_code)) ns → 0 < length ns
      → least ≡ least_of ns → Passes (is_seen is_in there is_code) least
  least_is_seen ns least all some e = All-contains (Passes (is_seen is_in there is_code)) ns least all (least-in ns least some e)

  -- the greatest of numbers that can be seen can be seen
  pub greatest_is_seen : (ns : List ℕ) (greatest : ℕ) → All (Passes (is_seen is_in there is_code)) ns
      → 0 < length ns → greatest ≡ greatest_of ns → Passes (is_seen is_in there is_code) greatest
  greatest_is_seen ns greatest all some e =
      All-contains (Passes (is_seen is_in there is_code)) ns greatest all (greatest-in ns greatest some e)

  -- the least number is seen as the least value
  pub least_seen : (is_default : X → Type 0) (ns : List ℕ) (least : ℕ)
      → All (Passes (is_seen is_in there is_code)) ns → 0 < length ns → least ≡ least_of ns
      → All (IsAtMost number_cmp least) ns
      → IsLeastOf cmp is_default (map (λ n. value (there n)) ns) (value (there least))
  least_seen is_default ns least all some e below =
      let here = least-in ns least some e in
      let seen = least_is_seen ns least all some e in
      record {
        without_values = λ none. absurd (omega (arith, some, length-map ns (λ n. value (there n)), ap length none));
        value = λ _. contains_seen (λ n. value (there n)) ns least here;
        below =
            All-map (IsAtMost cmp (value (there least))) (λ n. value (there n)) ns
            (λ k d within. ap (is_some_and is_le) (compares least _ seen (all k d within)) ∙ below k d within);
      }

  -- the greatest number is seen as the greatest of the values
  pub greatest_seen : (is_default : X → Type 0) (ns : List ℕ) (greatest : ℕ)
      → All (Passes (is_seen is_in there is_code)) ns → 0 < length ns → greatest ≡ greatest_of ns
      → All (λ n. IsAtMost number_cmp n greatest) ns
      → IsGreatestOf cmp is_default (map (λ n. value (there n)) ns) (value (there greatest))
  greatest_seen is_default ns greatest all some e above =
      let here = greatest-in ns greatest some e in
      let seen = greatest_is_seen ns greatest all some e in
      record {
        without_values = λ none. absurd (omega (arith, some, length-map ns (λ n. value (there n)), ap length none));
        value = λ _. contains_seen (λ n. value (there n)) ns greatest here;
        above =
            All-map (λ v. IsAtMost cmp v (value (there greatest))) (λ n. value (there n)) ns
            (λ k d within. ap (is_some_and is_le) (compares _ greatest (all k d within) seen) ∙ above k d within);
      }

  -- a value is compared with what a number is seen as by its own number
  from_low : (low : X) (n : ℕ) → Passes in_type low → Passes (is_seen is_in there is_code) n
      → partial_le cmp low (value (there n)) ≡ partial_le number_cmp (code low) (there n)
  from_low low n t h =
      ap (is_some_and is_le)
      (sym (laws.compares low (value (there n)) t (known n h)) ∙ ap (number_cmp (code low)) (again n h))

  to_high : (high : X) (n : ℕ) → Passes in_type high → Passes (is_seen is_in there is_code) n
      → partial_le cmp (value (there n)) high ≡ partial_le number_cmp (there n) (code high)
  to_high high n t h =
      ap (is_some_and is_le)
      (sym (laws.compares (value (there n)) high (known n h) t) ∙ ap (λ c. number_cmp c (code high)) (again n h))

  from_low_by : (low : X) (number : ℕ) (test : ℕ → Bool) → Passes in_type low → number ≡ code low
      → ((n : ℕ) → Passes is_in n → partial_le number_cmp number (there n) ≡ test n) → (n : ℕ)
      → Passes (is_seen is_in there is_code) n → partial_le cmp low (value (there n)) ≡ test n
  from_low_by low number test t e tells n h =
      from_low low n t h ∙ ap (λ c. partial_le number_cmp c (there n)) (sym e) ∙ tells n (in_domain n h)

  to_high_by : (high : X) (number : ℕ) (test : ℕ → Bool) → Passes in_type high → number ≡ code high
      → ((n : ℕ) → Passes is_in n → partial_le number_cmp (there n) number ≡ test n) → (n : ℕ)
      → Passes (is_seen is_in there is_code) n → partial_le cmp (value (there n)) high ≡ test n
  to_high_by high number test t e tells n h = to_high high n t h ∙ ap (partial_le number_cmp (there n)) (sym e) ∙ tells n (in_domain n h)

  module _ (ns : List ℕ) (all : All (Passes (is_seen is_in there is_code)) ns) (values : List X)
      (seen : map (λ n. value (there n)) ns ≡ values) (low high : X) where
    -- no number is taken to at least the lower end
    pub none_from : (number : ℕ) → Passes in_type low → number ≡ code low
        → ((n : ℕ) → Passes is_in n → partial_le number_cmp number (there n) ≡ false) → (found : List ℕ)
        → found ≡ [] → (from to : ℕ) → found ≡ hits_between cmp values low high from to
    none_from number t e misses found none from to =
        subst (λ vs. found ≡ hits_between cmp vs low high from to) seen
        (none ∙ sym (no_lower number_cmp cmp (is_seen is_in there is_code) (λ n. value (there n)) ns all low high
        (from_low_by low number (λ _. false) t e misses) from to))

    -- none is taken to at most the upper one
    pub none_up_to : (number : ℕ) → Passes in_type high → number ≡ code high
        → ((n : ℕ) → Passes is_in n → partial_le number_cmp (there n) number ≡ false) → (found : List ℕ)
        → found ≡ [] → (from to : ℕ) → found ≡ hits_between cmp values low high from to
    none_up_to number t e misses found none from to =
        subst (λ vs. found ≡ hits_between cmp vs low high from to) seen
        (none ∙ sym (no_upper number_cmp cmp (is_seen is_in there is_code) (λ n. value (there n)) ns all low high
        (to_high_by high number (λ _. false) t e misses) from to))

    -- the ends are moved to the numbers
    pub between_moved : (a b first last : ℕ) → Passes in_type low → a ≡ code low
        → ((n : ℕ) → Passes is_in n → partial_le number_cmp a (there n) ≡ partial_le number_cmp first n)
        → Passes in_type high → b ≡ code high
        → ((n : ℕ) → Passes is_in n → partial_le number_cmp (there n) b ≡ partial_le number_cmp n last)
        → (P : List ℕ → Type 0) → (from to : ℕ) → P (hits_between number_cmp ns first last from to)
        → P (hits_between cmp values low high from to)
    between_moved a b first last t e from_first u f to_last P from to found =
        subst (λ vs. P (hits_between cmp vs low high from to)) seen
        (subst P (sym (moved_ends number_cmp cmp (is_seen is_in there is_code) (λ n. value (there n)) ns all low
        high first last (from_low_by low a (λ n. partial_le number_cmp first n) t e from_first)
        (to_high_by high b (λ n. partial_le number_cmp n last) u f to_last) from to)) found)
